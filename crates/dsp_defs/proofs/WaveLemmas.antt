-- WAVE headers: chunk after chunk, and that a good header stays when the file goes on.
use Rattle.std.proofs.Common.{◌≡◌, ℕ, zero, suc, ◌+◌, ◌*◌, ◌<◌, ◌≤◌, Bool, true, false, not, ◌||◌, nat_eq, nat_le}
use Rattle.std.proofs.Common.{if◌then◌else◌, List, [], ◌∷◌, ◌++◌, length, take, drop, codes, Option, Some, None}
use Rattle.std.proofs.Common.{Result, Ok, Err, refl, sym, ap, ap₂, ◌∙◌, arith, length-append, subst, ◌⊎◌, inl, inr}
use Rattle.std.proofs.Common.{⊎_elim}
use Rattle.std.proofs.lemmas.Grind.{common_steps}
use Rattle.std.proofs.lemmas.Bool.{cases_lt}
use Rattle.std.proofs.lemmas.List.{take-append-le, drop-append-le, length-drop, drop_all}
use Rattle.std.specs.Int.{from_le_bytes}
use Rattle.std.specs.Str.{bytes_eq}
use Rattle.dsp_defs.specs.Numbers.{w16, w32}
use Rattle.dsp_defs.specs.Bytes.{width}
use Rattle.dsp_defs.specs.Wave
use Rattle.dsp_defs.specs.Wave.{Test, first_failed, pcm_tests, sample_tests, extensible_tag, pcm_subformat, sampling}
use Rattle.dsp_defs.specs.Wave.{file_coding, Chunk, chunk_at, chunks_behind, chunks, padded, has_id, u16_at, u32_at}
use Rattle.dsp_defs.specs.Wave.{format_fault, unless, header_in, header_of}
use Rattle.dsp_defs.specs.declared.wave.Sampling.{Sampling}
use Rattle.dsp_defs.specs.declared.wave.Wanted.{Wanted}
use Rattle.dsp_defs.specs.declared.wave.Header.{Header}
use Rattle.dsp_defs.specs.declared.wave.HeaderFault.{HeaderFault}
use Rattle.dsp_defs.specs.declared.wave.HeaderFault.TheVariants.{NotRiff, NotWave, NoFormat, NoSamples}

-- ---- chunk after chunk

chunks_behind-skip : (skipped offset : ℕ) (bytes : List ℕ) →
    chunks_behind skipped offset bytes ≡ chunks_behind 0 (offset + skipped) (drop skipped bytes)
chunks_behind-skip zero offset bytes = let e : offset ≡ offset + 0 = omega arith in ap (λ o. chunks_behind 0 o bytes) e
chunks_behind-skip (suc skipped) offset [] = refl
chunks_behind-skip (suc skipped) offset (byte ∷ bytes) =
    let e : offset + 1 + skipped ≡ offset + suc skipped = omega arith in
    chunks_behind-skip skipped (offset + 1) bytes ∙ ap (λ o. chunks_behind 0 o (drop skipped bytes)) e

pub chunks_behind-end : (offset : ℕ) (bytes : List ℕ) → length bytes < 8 → chunks_behind 0 offset bytes ≡ []
chunks_behind-end offset [] h = refl
chunks_behind-end offset (byte ∷ bytes) h = grind (arith, common_steps)

pub chunks_behind-first : (offset byte : ℕ) (bytes : List ℕ) → 7 ≤ length bytes →
    chunks_behind 0 offset (byte ∷ bytes) ≡ chunk_at offset (byte ∷ bytes) ∷ chunks_behind
    (7 + padded (chunk_at offset (byte ∷ bytes)).size) (offset + 1) bytes
chunks_behind-first offset byte bytes h = grind (arith, common_steps)

-- where an id and a size stand, a chunk stands, and the next one behind its body
pub chunks_behind-more : (offset : ℕ) (bytes : List ℕ) → 8 ≤ length bytes →
    chunks_behind 0 offset bytes ≡ chunk_at offset bytes ∷ chunks_behind 0 (offset + (8 + padded (u32_at bytes 4)))
    (drop (8 + padded (u32_at bytes 4)) bytes)
chunks_behind-more offset [] h = absurd (omega (arith, h))
chunks_behind-more offset (byte ∷ bytes) h =
    let size = u32_at (byte ∷ bytes) 4 in
    let skip : 8 + padded size ≡ suc (7 + padded size) = omega arith in
    let place : offset + 1 + (7 + padded size) ≡ offset + (8 + padded size) = omega arith in
    let left : drop (7 + padded size) bytes ≡ drop (8 + padded size) (byte ∷ bytes) =
    ap (λ k. drop k (byte ∷ bytes)) (sym skip) in
    chunks_behind-first offset byte bytes (omega arith)
    ∙ ap (λ cs. chunk_at offset (byte ∷ bytes) ∷ cs) (chunks_behind-skip (7 + padded size) (offset + 1) bytes ∙
    ap₂ (chunks_behind 0) place left)

-- ---- a good `fmt ` chunk

abbrev AllHold : List Test → Type 0
AllHold [] = Unit {0}
AllHold (test ∷ tests) = (test.holds ≡ true) × AllHold tests

first_holds : (test : Test) (tests : List Test) → first_failed (test ∷ tests) ≡ None → (test.holds ≡ true) ×
    (first_failed tests ≡ None)
first_holds test tests e = by_first test.holds refl e
  where
    by_first : (b : Bool) → test.holds ≡ b → (if b then first_failed tests else Some (test.fault, test.offset)) ≡ None
        → (test.holds ≡ true) × (first_failed tests ≡ None)
    by_first true is e = (is, e)
    by_first false is e = cc

all_hold : (tests : List Test) → first_failed tests ≡ None → AllHold tests
all_hold [] e = tt
all_hold (test ∷ tests) e = let (first, later) = first_holds test tests e in (first, all_hold tests later)

none_fails : (tests : List Test) → AllHold tests → first_failed tests ≡ None
none_fails [] h = refl
none_fails (test ∷ tests) (first, later) = ap (λ b. if b then first_failed tests else Some (test.fault, test.offset))
    first ∙ none_fails tests later

-- the extension is there and says linear PCM
pub record Extended (c : Chunk) : Type 0 where
  pub tag : u16_at c.body 0 ≡ extensible_tag
  pub size : 40 ≤ c.size
  pub body : 40 ≤ length c.body
  pub subformat : bytes_eq (take 16 (drop 24 c.body)) pcm_subformat ≡ true

pub record GoodFormat (wanted : Wanted) (c : Chunk) : Type 0 where
  pub size : 16 ≤ c.size
  pub body : 16 ≤ length c.body
  pub pcm : (u16_at c.body 0 ≡ 1) ⊎ Extended c
  pub channels : u16_at c.body 2 ≡ wanted.channels
  pub bits : u16_at c.body 14 ≡ 8 * width (sampling wanted c).coding
  pub align : u16_at c.body 12 ≡ wanted.channels * width (sampling wanted c).coding

-- whether the tag is that of an extension or not, what the tests of an extension say
by_tag : (c : Chunk) (tag : ℕ) → u16_at c.body 0 ≡ tag → (nat_eq tag 1 || nat_eq tag extensible_tag) ≡ true
    → (not (nat_eq tag extensible_tag) || nat_le 40 c.size) ≡ true →
    (not (nat_eq tag extensible_tag) || nat_le 40 (length c.body)) ≡ true
    → (not (nat_eq tag extensible_tag) || bytes_eq (take 16 (drop 24 c.body)) pcm_subformat) ≡ true →
    (u16_at c.body 0 ≡ 1) ⊎ Extended c
by_tag c tag is known size body subformat = by_cases (nat_eq tag extensible_tag) refl
  where
    by_cases : (b : Bool) → nat_eq tag extensible_tag ≡ b → (u16_at c.body 0 ≡ 1) ⊎ Extended c
    by_cases true e = inr (record {
      tag = grind (arith, common_steps, is, e);
      size = grind (arith, common_steps, size, e);
      body = grind (arith, common_steps, body, e);
      subformat = grind (arith, common_steps, subformat, e);
    })
    by_cases false e = inl (grind (arith, common_steps, is, known, e))

pub format_is_good : (wanted : Wanted) (total : ℕ) (c : Chunk) → format_fault wanted total c ≡ None →
    GoodFormat wanted c
format_is_good wanted total c h =
    let (size, (body, (known, (long, (there, (says, (channels, (bits, (align, _))))))))) =
    all_hold (pcm_tests total c ++ sample_tests wanted c) h in
    record {
      size = grind (arith, common_steps, size);
      body = grind (arith, common_steps, body);
      pcm = by_tag c (u16_at c.body 0) refl known long there says;
      channels = grind (arith, common_steps, channels);
      bits = grind (arith, common_steps, bits);
      align = grind (arith, common_steps, align);
    }

-- what the tests of the tag and the extension say
abbrev IsPcm : Bool → Chunk → Type 0
IsPcm plain c = ((nat_eq (u16_at c.body 0) 1 || nat_eq (u16_at c.body 0) extensible_tag) ≡ true) ×
    ((plain || nat_le 40 c.size) ≡ true) × ((plain || nat_le 40 (length c.body)) ≡ true)
    × ((plain || bytes_eq (take 16 (drop 24 c.body)) pcm_subformat) ≡ true)

is_pcm : (c : Chunk) → (u16_at c.body 0 ≡ 1) ⊎ Extended c → IsPcm (not (nat_eq (u16_at c.body 0) extensible_tag)) c
is_pcm c (inl plain) = grind (arith, common_steps, plain)
is_pcm c (inr extended) = grind (arith, common_steps, extended.tag, extended.size, extended.body, extended.subformat)

pub good_format : (wanted : Wanted) (total : ℕ) (c : Chunk) → GoodFormat wanted c → format_fault wanted total c ≡ None
good_format wanted total c g =
    let (known, size, body, subformat) = is_pcm c g.pcm in
    none_fails (pcm_tests total c ++ sample_tests wanted c) (
      grind (arith, common_steps, g.size),
      (
        grind (arith, common_steps, g.body),
        (
          known,
          (
            size,
            (
              body,
              (
                subformat,
                (
                  grind (arith, common_steps, g.channels),
                  (grind (arith, common_steps, g.bits), (grind (arith, common_steps, g.align), tt)),
                ),
              ),
            ),
          ),
        ),
      ),
    )

-- ---- a longer file

pub piece-append : (size start : ℕ) (bytes more : List ℕ) → start + size ≤ length bytes →
    take size (drop start (bytes ++ more)) ≡ take size (drop start bytes)
piece-append size start bytes more h =
    let begin : start ≤ length bytes = omega arith in
    let room : size ≤ length (drop start bytes) = omega (arith, length-drop start bytes) in
    rw (drop-append-le start bytes more begin) (take-append-le size (drop start bytes) more room)

pub u16_at-append : (bytes more : List ℕ) (place : ℕ) → place + 2 ≤ length bytes →
    u16_at (bytes ++ more) place ≡ u16_at bytes place
u16_at-append bytes more place h = ap (from_le_bytes w16) (piece-append 2 place bytes more h)

-- what a `data` chunk says, where the `fmt ` chunk said this
abbrev pub found : Sampling → Chunk → Header
found known c = record {
  rate = known.rate;
  start = c.offset + 8;
  size = Wave.declared_size c.size;
  coding =
      known.coding;
}

-- a chunk of whose body more has come
abbrev pub longer : Chunk → List ℕ → Chunk
longer c more = record { offset = c.offset; id = c.id; size = c.size; body = c.body ++ more }

-- what stands in the first 16 bytes stays
pub same_sampling : (wanted : Wanted) (c : Chunk) (more : List ℕ) → 16 ≤ length c.body →
    sampling wanted (longer c more) ≡ sampling wanted c
same_sampling wanted c more long =
    ap₂ {C = Sampling} (λ (rate bits : ℕ). record { rate = rate; coding = file_coding wanted.format bits })
    (ap (from_le_bytes w32) (piece-append 4 4 c.body more (omega (arith, long))))
    (u16_at-append c.body more 14 (omega (arith, long)))

longer_format : (wanted : Wanted) (c : Chunk) (more : List ℕ) → GoodFormat wanted c → GoodFormat wanted (longer c more)
longer_format wanted c more g = record {
  size = g.size;
  body = (let b : 16 ≤ length c.body = g.body in omega (arith, b, length-append c.body more));
  pcm = by_pcm g.pcm;
  channels = u16_at-append c.body more 2 (omega (arith, g.body)) ∙ g.channels;
  bits = u16_at-append c.body more 14 (omega (arith, g.body)) ∙ g.bits ∙ ap (λ s. 8 * width s.coding) same;
  align = u16_at-append c.body more 12 (omega (arith, g.body)) ∙ g.align ∙
      ap (λ s. wanted.channels * width s.coding) same;
}
  where
    same : sampling wanted c ≡ sampling wanted (longer c more)
    same = sym (same_sampling wanted c more g.body)

    tag : u16_at (c.body ++ more) 0 ≡ u16_at c.body 0
    tag = u16_at-append c.body more 0 (omega (arith, g.body))

    by_pcm : (u16_at c.body 0 ≡ 1) ⊎ Extended c → (u16_at (c.body ++ more) 0 ≡ 1) ⊎ Extended (longer c more)
    by_pcm (inl plain) = inl (tag ∙ plain)
    by_pcm (inr e) = inr (record {
      tag = tag ∙ e.tag;
      size = e.size;
      body = (let b : 40 ≤ length c.body = e.body in omega (arith, b, length-append c.body more));
      subformat = ap (λ l. bytes_eq l pcm_subformat) (piece-append 16 24 c.body more (omega (arith, e.body))) ∙
          e.subformat;
    })

pub take-append-longer : {A : Type 0} (size : ℕ) (xs ys : List A) → (rest : List A) ×
    (take size (xs ++ ys) ≡ take size xs ++ rest)
take-append-longer zero xs ys = ([], refl)
take-append-longer (suc size) [] ys = (take (suc size) ys, refl)
take-append-longer (suc size) (x ∷ xs) ys = let (rest, e) = take-append-longer size xs ys in (rest, ap (λ l. x ∷ l) e)

pub chunk_at-append : (offset : ℕ) (bytes more : List ℕ) → 8 ≤ length bytes → (rest : List ℕ) ×
    (chunk_at offset (bytes ++ more) ≡ longer (chunk_at offset bytes) rest)
chunk_at-append offset bytes more h =
    let id : take 4 (bytes ++ more) ≡ take 4 bytes = take-append-le 4 bytes more (omega (arith, h)) in
    let size : u32_at (bytes ++ more) 4 ≡ u32_at bytes 4 =
    ap (from_le_bytes w32) (piece-append 4 4 bytes more (omega (arith, h))) in
    let (rest, body) = take-append-longer (u32_at bytes 4) (drop 8 bytes) more in
    let long : take (u32_at (bytes ++ more) 4) (drop 8 (bytes ++ more)) ≡ take (u32_at bytes 4) (drop 8 bytes) ++ rest =
    ap₂ (λ (n : ℕ) (l : List ℕ). take n l) size (drop-append-le 8 bytes more (omega (arith, h))) ∙ body in (
      rest,
      ap₂ {C = Chunk} (λ (i : List ℕ) (n : ℕ). record {
        offset = offset;
        id = i;
        size = n;
        body =
            take (u32_at (bytes ++ more) 4) (drop 8 (bytes ++ more));
      }) id size
          ∙ ap {B = Chunk} (λ (b : List ℕ). record {
            offset = offset;
            id = take 4 bytes;
            size = u32_at bytes 4;
            body =
                b;
          }) long,
    )

-- ---- a good header stays

pub no_header : {A : Type 0} (fault : HeaderFault × ℕ) (header : Header) → (Err fault ≡ Ok header) → A
no_header fault header e = cc

module _ (wanted : Wanted) (total total' : ℕ) (header : Header) where
  -- one chunk, where what the later ones say stays
  samples_stay : (known : Sampling) (c : Chunk) (more : List ℕ) (cs cs' : List Chunk) →
      (header_in wanted total (Some known) cs ≡ Ok header → header_in wanted total' (Some known) cs' ≡ Ok header)
      → header_in wanted total (Some known) (c ∷ cs) ≡ Ok header →
      header_in wanted total' (Some known) (longer c more ∷ cs') ≡ Ok header
  samples_stay known c more cs cs' later h = at_data (has_id (codes "data") c) h
    where
      at_data : (b : Bool) → (if b then Ok (found known c) else header_in wanted total (Some known) cs) ≡ Ok header
          → (if b then Ok (found known c) else header_in wanted total' (Some known) cs') ≡ Ok header
      at_data true e = e
      at_data false e = later e

  same_known : (c : Chunk) (more : List ℕ) (cs cs' : List Chunk) →
      ((known : Option Sampling) → header_in wanted total known cs ≡ Ok header →
      header_in wanted total' known cs' ≡ Ok header) → GoodFormat wanted c
      → header_in wanted total (Some (sampling wanted c)) cs ≡ Ok header →
      header_in wanted total' (Some (sampling wanted (longer c more))) cs' ≡ Ok header
  same_known c more cs cs' later g h = ap (λ s. header_in wanted total' (Some s) cs')
      (same_sampling wanted c more g.body) ∙ later (Some (sampling wanted c)) h

  format_stays : (c : Chunk) (more : List ℕ) (cs cs' : List Chunk) →
      ((known : Option Sampling) → header_in wanted total known cs ≡ Ok header →
      header_in wanted total' known cs' ≡ Ok header)
      → (fault : Option (HeaderFault × ℕ)) → format_fault wanted total c ≡ fault
      → unless fault (header_in wanted total (Some (sampling wanted c)) cs) ≡ Ok header
      → unless (format_fault wanted total' (longer c more))
      (header_in wanted total' (Some (sampling wanted (longer c more))) cs') ≡ Ok header
  format_stays c more cs cs' later (Some f) e h = no_header f header h
  format_stays c more cs cs' later None e h =
      let good = format_is_good wanted total c e in
      ap (λ f. unless f (header_in wanted total' (Some (sampling wanted (longer c more))) cs'))
      (good_format wanted total' (longer c more) (longer_format wanted c more good))
      ∙ same_known c more cs cs' later good h

  chunk_stays : (known : Option Sampling) (c : Chunk) (more : List ℕ) (cs cs' : List Chunk) →
      ((known : Option Sampling) → header_in wanted total known cs ≡ Ok header →
      header_in wanted total' known cs' ≡ Ok header)
      → header_in wanted total known (c ∷ cs) ≡ Ok header →
      header_in wanted total' known (longer c more ∷ cs') ≡ Ok header
  chunk_stays (Some known) c more cs cs' later h = samples_stay known c more cs cs' (later (Some known)) h
  chunk_stays None c more cs cs' later h = at_data (has_id (codes "data") c) (has_id (codes "fmt ") c) h
    where
      at_format : (b : Bool) → (if b then unless (format_fault wanted total c)
          (header_in wanted total (Some (sampling wanted c)) cs) else header_in wanted total None cs) ≡ Ok header
          → (if b then unless (format_fault wanted total' (longer c more))
          (header_in wanted total' (Some (sampling wanted (longer c more))) cs') else
          header_in wanted total' None cs') ≡ Ok header
      at_format true e = format_stays c more cs cs' later (format_fault wanted total c) refl e
      at_format false e = later None e

      at_data : (b b' : Bool) → (if b then Err (NoFormat, c.offset) else
          (if b' then unless (format_fault wanted total c) (header_in wanted total (Some (sampling wanted c)) cs) else
          header_in wanted total None cs)) ≡ Ok header
          → (if b then Err (NoFormat, c.offset) else (if b' then
          unless (format_fault wanted total' (longer c more))
          (header_in wanted total' (Some (sampling wanted (longer c more))) cs') else
          header_in wanted total' None cs')) ≡ Ok header
      at_data true b' e = no_header _ header e
      at_data false b' e = at_format b' e

  chunks_stay : (more bytes : List ℕ) (skipped offset : ℕ) (known : Option Sampling) →
      header_in wanted total known (chunks_behind skipped offset bytes) ≡ Ok header →
      header_in wanted total' known (chunks_behind skipped offset (bytes ++ more)) ≡ Ok header
  chunks_stay more [] skipped offset None h = no_header _ header h
  chunks_stay more [] skipped offset (Some known) h = no_header _ header h
  chunks_stay more (byte ∷ bytes) (suc skipped) offset known h = chunks_stay more bytes skipped (offset + 1) known h
  chunks_stay more (byte ∷ bytes) zero offset known h =
      ⊎_elim
      (λ (short : length bytes < 7). nothing known (subst (λ cs. header_in wanted total known cs ≡ Ok header)
      (chunks_behind-end offset (byte ∷ bytes) (omega (arith, short))) h))
      (λ (long : 7 ≤ length bytes).
      let (rest, e) = chunk_at-append offset (byte ∷ bytes) more (omega (arith, long)) in
      let long' : 7 ≤ length (bytes ++ more) = omega (arith, length-append bytes more) in
      let first = chunk_at offset (byte ∷ bytes) in
      ap (header_in wanted total' known) (chunks_behind-first offset byte (bytes ++ more) long' ∙
      ap (λ (c : Chunk). c ∷ chunks_behind (7 + padded c.size) (offset + 1) (bytes ++ more)) e)
      ∙ chunk_stays known first rest (chunks_behind (7 + padded first.size) (offset + 1) bytes)
      (chunks_behind (7 + padded first.size) (offset + 1) (bytes ++ more))
      (λ r. chunks_stay more bytes (7 + padded first.size) (offset + 1) r)
      (subst (λ cs. header_in wanted total known cs ≡ Ok header) (chunks_behind-first offset byte bytes long) h))
      (cases_lt (length bytes) 7)
    where
      nothing : (r : Option Sampling) → header_in wanted total r [] ≡ Ok header →
          header_in wanted total' known (chunks_behind zero offset (byte ∷ (bytes ++ more))) ≡ Ok header
      nothing None e = no_header _ header e
      nothing (Some r) e = no_header _ header e

pub short_file : (bytes : List ℕ) → length bytes < 12 → chunks bytes ≡ []
short_file bytes h = ap (chunks_behind 0 12) (drop_all 12 bytes (omega (arith, h)))

-- what a header says, where its first words are wrong or not
abbrev pub words : Bool → Bool → Result Header (HeaderFault × ℕ) → Result Header (HeaderFault × ℕ)
words r w said = if r then Err (NotRiff, 0) else (if w then Err (NotWave, 8) else said)

-- a file with a good header keeps it when it goes on
pub header_of-append : (bytes more : List ℕ) (wanted : Wanted) (header : Header) →
    header_of bytes wanted ≡ Ok header → header_of (bytes ++ more) wanted ≡ Ok header
header_of-append bytes more wanted header h =
    ⊎_elim
    (λ (short : length bytes < 12). only_faults (not (bytes_eq (take 4 bytes) (codes "RIFF")))
    (not (bytes_eq (take 4 (drop 8 bytes)) (codes "WAVE")))
    (subst (λ cs. words (not (bytes_eq (take 4 bytes) (codes "RIFF")))
    (not (bytes_eq (take 4 (drop 8 bytes)) (codes "WAVE"))) (header_in wanted (length bytes) None cs) ≡ Ok header)
    (short_file bytes short) h))
    (λ (long : 12 ≤ length bytes).
    let riff : take 4 (bytes ++ more) ≡ take 4 bytes = take-append-le 4 bytes more (omega (arith, long)) in
    let wave : take 4 (drop 8 (bytes ++ more)) ≡ take 4 (drop 8 bytes) =
    piece-append 4 8 bytes more (omega (arith, long)) in
    ap₂ (λ (r w : List ℕ). words (not (bytes_eq r (codes "RIFF"))) (not (bytes_eq w (codes "WAVE")))
    (header_in wanted (length (bytes ++ more)) None (chunks (bytes ++ more)))) riff wave
    ∙ behind (not (bytes_eq (take 4 bytes) (codes "RIFF"))) (not (bytes_eq (take 4 (drop 8 bytes)) (codes "WAVE"))) _ _
    (λ e. ap (λ r. header_in wanted (length (bytes ++ more)) None (chunks_behind 0 12 r))
    (drop-append-le 12 bytes more long)
    ∙ chunks_stay wanted (length bytes) (length (bytes ++ more)) header more (drop 12 bytes) 0 12 None e)
    h)
    (cases_lt (length bytes) 12)
  where
    behind : (r w : Bool) (said said' : Result Header (HeaderFault × ℕ)) → (said ≡ Ok header → said' ≡ Ok header) →
        words r w said ≡ Ok header → words r w said' ≡ Ok header
    behind true w said said' later e = no_header _ header e
    behind false true said said' later e = no_header _ header e
    behind false false said said' later e = later e

    only_faults : {A : Type 0} (r w : Bool) → words r w (Err (NoSamples, length bytes)) ≡ Ok header → A
    only_faults true w e = no_header _ header e
    only_faults false true e = no_header _ header e
    only_faults false false e = no_header _ header e
