-- A good header that is cut has the fault of the place at which it is cut.
use Rattle.std.proofs.Common.{◌≡◌, ℕ, zero, suc, ◌+◌, ◌*◌, ◌-◌, ◌<◌, ◌≤◌, Bool, true, false, not, nat_eq, ◌&&◌}
use Rattle.std.proofs.Common.{if◌then◌else◌, List, [], ◌∷◌, ◌++◌, length, take, drop, codes, Option, Some, None}
use Rattle.std.proofs.Common.{Result, Ok, Err, refl, sym, ap, ap₂, ◌∙◌, arith, subst, ◌⊎◌, inl, inr, ⊎_elim}
use Rattle.std.proofs.lemmas.Grind.{common_steps}
use Rattle.std.proofs.lemmas.Bool.{cases_lt}
use Rattle.std.proofs.lemmas.List.{take-append-drop, take-append-le, drop-take, length-take, length-take-le}
use Rattle.std.proofs.lemmas.List.{length-drop}
use Rattle.std.specs.Str.{bytes_eq}
use Rattle.std.specs.Result.{result_unwrap_or, result_err}
use Rattle.dsp_defs.specs.Bytes.{width}
use Rattle.dsp_defs.specs.Wave.{Chunk, chunk_at, chunks_behind, chunks, padded, has_id, u16_at, extensible_tag}
use Rattle.dsp_defs.specs.Wave.{pcm_subformat, sampling, format_fault, unless, header_in, header_of, header_fault}
use Rattle.dsp_defs.specs.Wave.{cut_fault}
use Rattle.dsp_defs.specs.declared.wave.Sampling.{Sampling}
use Rattle.dsp_defs.specs.declared.wave.Wanted.{Wanted}
use Rattle.dsp_defs.specs.declared.wave.Header.{Header}
use Rattle.dsp_defs.specs.declared.wave.HeaderFault.{HeaderFault}
use Rattle.dsp_defs.specs.declared.wave.HeaderFault.TheVariants.{NotRiff, NotWave, NoFormat, NoSamples}
use Rattle.dsp_defs.proofs.WaveLemmas.{Extended, GoodFormat, found, same_sampling, good_format, format_is_good}
use Rattle.dsp_defs.proofs.WaveLemmas.{longer, words, no_header, piece-append, u16_at-append, chunk_at-append}
use Rattle.dsp_defs.proofs.WaveLemmas.{chunks_behind-end, chunks_behind-first, short_file}

-- a good `fmt ` chunk that is cut is good still, or it is known that bytes are missing
module _ (wanted : Wanted) (total : ℕ) (c : Chunk) (more : List ℕ) (g : GoodFormat wanted (longer c more)) where
  cut_short : length c.body < 16 → format_fault wanted total c ≡ Some (NoSamples, total)
  cut_short short = grind (arith, common_steps, g.size, short)

  -- the first 16 bytes are there
  tag_is_there : 16 ≤ length c.body → u16_at c.body 0 ≡ u16_at (c.body ++ more) 0
  tag_is_there long = sym (u16_at-append c.body more 0 (omega (arith, long)))

  good_still : 16 ≤ length c.body → (u16_at c.body 0 ≡ 1) ⊎ Extended c → format_fault wanted total c ≡ None
  good_still long pcm =
      let same : sampling wanted (longer c more) ≡ sampling wanted c = same_sampling wanted c more long in
      good_format wanted total c (record {
        size = g.size;
        body = long;
        pcm = pcm;
        channels = sym (u16_at-append c.body more 2 (omega (arith, long))) ∙ g.channels;
        bits = sym (u16_at-append c.body more 14 (omega (arith, long))) ∙ g.bits ∙ ap (λ s. 8 * width s.coding) same;
        align = sym (u16_at-append c.body more 12 (omega (arith, long))) ∙ g.align ∙
            ap (λ s. wanted.channels * width s.coding) same;
      })

  cut_in_extension : 16 ≤ length c.body → length c.body < 40 → Extended (longer c more) →
      format_fault wanted total c ≡ Some (NoSamples, total)
  cut_in_extension long short e = (let tag : u16_at c.body 0 ≡ extensible_tag = tag_is_there long ∙ e.tag in
      grind (arith, common_steps, g.size, long, short, tag, e.size))

  whole_extension : 16 ≤ length c.body → 40 ≤ length c.body → Extended (longer c more) → Extended c
  whole_extension long there e = record {
    tag = tag_is_there long ∙ e.tag;
    size = e.size;
    body = there;
    subformat = ap (λ l. bytes_eq l pcm_subformat) (sym (piece-append 16 24 c.body more (omega (arith, there)))) ∙
        e.subformat;
  }

  by_pcm : 16 ≤ length c.body → (u16_at (c.body ++ more) 0 ≡ 1) ⊎ Extended (longer c more) →
      (format_fault wanted total c ≡ None) ⊎ (format_fault wanted total c ≡ Some (NoSamples, total))
  by_pcm long (inl plain) = inl (good_still long (inl (tag_is_there long ∙ plain)))
  by_pcm long (inr e) =
      ⊎_elim
      (λ (short : length c.body < 40). inr (cut_in_extension long short e))
      (λ (there : 40 ≤ length c.body). inl (good_still long (inr (whole_extension long there e))))
      (cases_lt (length c.body) 40)

start_is : (found header : Header) → ◌≡◌ {A = Result Header (HeaderFault × ℕ)} (Ok found) (Ok header) →
    found.start ≡ header.start
start_is found header e = ap (λ r. (result_unwrap_or r header).start) e

module _ (wanted : Wanted) (total total' : ℕ) (header : Header) where
  abbrev ended : Result Header (HeaderFault × ℕ)
  ended = Err (NoSamples, total')

  nothing_ends : (known : Option Sampling) → header_in wanted total' known [] ≡ ended
  nothing_ends None = refl
  nothing_ends (Some known) = refl

  -- the samples begin past the cut
  cut_before_samples : (known : Sampling) (c : Chunk) (more : List ℕ) (cs cs' : List Chunk) →
      c.offset + 8 < header.start
      → (header_in wanted total (Some known) cs ≡ Ok header → header_in wanted total' (Some known) cs' ≡ ended)
      → header_in wanted total (Some known) (longer c more ∷ cs) ≡ Ok header →
      header_in wanted total' (Some known) (c ∷ cs') ≡ ended
  cut_before_samples known c more cs cs' before later h = at_data (has_id (codes "data") c) h
    where
      at_data : (b : Bool) → (if b then Ok (found known c) else header_in wanted total (Some known) cs) ≡ Ok header
          → (if b then Ok (found known c) else header_in wanted total' (Some known) cs') ≡ ended
      at_data true e = absurd (let s : c.offset + 8 ≡ header.start = start_is (found known c) header e in
          omega (arith, s, before))
      at_data false e = later e

  cut_in_format : (c : Chunk) (more : List ℕ) (cs cs' : List Chunk) →
      ((known : Option Sampling) → header_in wanted total known cs ≡ Ok header →
      header_in wanted total' known cs' ≡ ended)
      → (fault : Option (HeaderFault × ℕ)) → format_fault wanted total (longer c more) ≡ fault
      → unless fault (header_in wanted total (Some (sampling wanted (longer c more))) cs) ≡ Ok header
      → unless (format_fault wanted total' c) (header_in wanted total' (Some (sampling wanted c)) cs') ≡ ended
  cut_in_format c more cs cs' later (Some f) e h = no_header f header h
  cut_in_format c more cs cs' later None e h =
      let good : GoodFormat wanted (longer c more) = format_is_good wanted total (longer c more) e in
      ⊎_elim
      (λ (short : length c.body < 16). is_cut (cut_short wanted total' c more good short))
      (λ (long : 16 ≤ length c.body). ⊎_elim
      (λ (none : format_fault wanted total' c ≡ None).
      ap (λ f. unless f (header_in wanted total' (Some (sampling wanted c)) cs')) none
      ∙ later (Some (sampling wanted c)) (subst (λ s. header_in wanted total (Some s) cs ≡ Ok header)
      (same_sampling wanted c more long) h))
      is_cut
      (by_pcm wanted total' c more good long good.pcm))
      (cases_lt (length c.body) 16)
    where
      is_cut : format_fault wanted total' c ≡ Some (NoSamples, total') →
          unless (format_fault wanted total' c) (header_in wanted total' (Some (sampling wanted c)) cs') ≡ ended
      is_cut e = ap (λ f. unless f (header_in wanted total' (Some (sampling wanted c)) cs')) e

  cut_in_chunk : (known : Option Sampling) (c : Chunk) (more : List ℕ) (cs cs' : List Chunk) →
      c.offset + 8 < header.start
      → ((known : Option Sampling) → header_in wanted total known cs ≡ Ok header →
      header_in wanted total' known cs' ≡ ended)
      → header_in wanted total known (longer c more ∷ cs) ≡ Ok header → header_in wanted total' known (c ∷ cs') ≡ ended
  cut_in_chunk (Some known) c more cs cs' before later h =
      cut_before_samples known c more cs cs' before (later (Some known)) h
  cut_in_chunk None c more cs cs' before later h = at_data (has_id (codes "data") c) (has_id (codes "fmt ") c) h
    where
      at_format : (b : Bool) → (if b then unless (format_fault wanted total (longer c more))
          (header_in wanted total (Some (sampling wanted (longer c more))) cs) else header_in wanted total None cs) ≡ Ok
          header
          → (if b then unless (format_fault wanted total' c) (header_in wanted total' (Some (sampling wanted c)) cs')
          else header_in wanted total' None cs') ≡ ended
      at_format true e = cut_in_format c more cs cs' later (format_fault wanted total (longer c more)) refl e
      at_format false e = later None e

      at_data : (b b' : Bool)
          → (if b then Err (NoFormat, c.offset) else (if b' then
          unless (format_fault wanted total (longer c more))
          (header_in wanted total (Some (sampling wanted (longer c more))) cs) else header_in wanted total None cs))
          ≡ Ok header
          → (if b then Err (NoFormat, c.offset) else (if b' then
          unless (format_fault wanted total' c) (header_in wanted total' (Some (sampling wanted c)) cs') else
          header_in wanted total' None cs')) ≡ ended
      at_data true b' e = no_header _ header e
      at_data false b' e = at_format b' e

  -- from an offset on, cut to so many bytes
  cut_in_chunks : (bytes : List ℕ) (kept skipped offset : ℕ) (known : Option Sampling) → offset + kept < header.start
      → header_in wanted total known (chunks_behind skipped offset bytes) ≡ Ok header →
      header_in wanted total' known (chunks_behind skipped offset (take kept bytes)) ≡ ended
  cut_in_chunks bytes zero skipped offset known before h = nothing_ends known
  cut_in_chunks [] (suc kept) skipped offset known before h = nothing_ends known
  cut_in_chunks (byte ∷ bytes) (suc kept) (suc skipped) offset known before h =
      cut_in_chunks bytes kept skipped (offset + 1) known (omega (arith, before)) h
  cut_in_chunks (byte ∷ bytes) (suc kept) zero offset known before h =
      let there = take kept bytes in
      let gone = drop kept bytes in
      let all : there ++ gone ≡ bytes = take-append-drop kept bytes in
      let few : length there ≤ kept = omega (arith, length-take kept bytes) in
      let enough : length there ≤ length bytes = omega (arith, length-take kept bytes) in
      ⊎_elim
      (λ (short : length there < 7). ap (header_in wanted total' known)
      (chunks_behind-end offset (byte ∷ there) (omega (arith, short))) ∙ nothing_ends known)
      (λ (long : 7 ≤ length there).
      let (rest, e) = chunk_at-append offset (byte ∷ there) gone (omega (arith, long)) in
      let first = chunk_at offset (byte ∷ there) in
      let same : chunk_at offset (byte ∷ bytes) ≡ longer first rest = ap (λ l. chunk_at offset (byte ∷ l)) (sym all) ∙
      e in
      let long' : 7 ≤ length bytes = omega (arith, long, enough) in
      let whole : chunks_behind zero offset (byte ∷ bytes) ≡ longer first rest ∷ chunks_behind (7 + padded first.size)
      (offset + 1) bytes =
      chunks_behind-first offset byte bytes long' ∙ ap (λ (c : Chunk). c ∷ chunks_behind (7 + padded c.size)
      (offset + 1) bytes) same in
      ap (header_in wanted total' known) (chunks_behind-first offset byte there long)
      ∙ cut_in_chunk known first rest (chunks_behind (7 + padded first.size) (offset + 1) bytes)
      (chunks_behind (7 + padded first.size) (offset + 1) there) (omega (arith, before, few, long))
      (λ r. cut_in_chunks bytes kept (7 + padded first.size) (offset + 1) r (omega (arith, before)))
      (subst (λ cs. header_in wanted total known cs ≡ Ok header) whole h))
      (cases_lt (length there) 7)

-- ---- the samples begin within the file

module _ (wanted : Wanted) (total : ℕ) (header : Header) where
  begins_in_chunk : (known : Option Sampling) (c : Chunk) (cs : List Chunk) (n : ℕ) → c.offset + 8 ≤ n →
      ((known : Option Sampling) → header_in wanted total known cs ≡ Ok header → header.start ≤ n)
      → header_in wanted total known (c ∷ cs) ≡ Ok header → header.start ≤ n
  begins_in_chunk (Some known) c cs n room later h = at_data (has_id (codes "data") c) h
    where
      at_data : (b : Bool) → (if b then Ok (found known c) else header_in wanted total (Some known) cs) ≡ Ok header →
          header.start ≤ n
      at_data true e = (let s : c.offset + 8 ≡ header.start = start_is (found known c) header e in
          omega (arith, s, room))
      at_data false e = later (Some known) e
  begins_in_chunk None c cs n room later h = at_data (has_id (codes "data") c) (has_id (codes "fmt ") c) h
    where
      at_fault : (fault : Option (HeaderFault × ℕ)) → unless fault
          (header_in wanted total (Some (sampling wanted c)) cs) ≡ Ok header → header.start ≤ n
      at_fault (Some fault) e = no_header fault header e
      at_fault None e = later (Some (sampling wanted c)) e

      at_format : (b : Bool) → (if b then unless (format_fault wanted total c)
          (header_in wanted total (Some (sampling wanted c)) cs) else header_in wanted total None cs) ≡ Ok header →
          header.start ≤ n
      at_format true e = at_fault (format_fault wanted total c) e
      at_format false e = later None e

      at_data : (b b' : Bool)
          → (if b then Err (NoFormat, c.offset) else (if b' then
          unless (format_fault wanted total c) (header_in wanted total (Some (sampling wanted c)) cs) else
          header_in wanted total None cs)) ≡ Ok header → header.start ≤ n
      at_data true b' e = no_header _ header e
      at_data false b' e = at_format b' e

  begins_in_chunks : (bytes : List ℕ) (skipped offset : ℕ) (known : Option Sampling) →
      header_in wanted total known (chunks_behind skipped offset bytes) ≡ Ok header →
      header.start ≤ offset + length bytes
  begins_in_chunks [] skipped offset None h = no_header _ header h
  begins_in_chunks [] skipped offset (Some known) h = no_header _ header h
  begins_in_chunks (byte ∷ bytes) (suc skipped) offset known h =
      (let l : header.start ≤ offset + 1 + length bytes = begins_in_chunks bytes skipped (offset + 1) known h in
      omega (arith, l))
  begins_in_chunks (byte ∷ bytes) zero offset known h =
      ⊎_elim
      (λ (short : length bytes < 7). none known (subst (λ cs. header_in wanted total known cs ≡ Ok header)
      (chunks_behind-end offset (byte ∷ bytes) (omega (arith, short))) h))
      (λ (long : 7 ≤ length bytes).
      let first = chunk_at offset (byte ∷ bytes) in
      begins_in_chunk known first (chunks_behind (7 + padded first.size) (offset + 1) bytes)
      (offset + length (byte ∷ bytes)) (omega (arith, long))
      (λ r e. let l : header.start ≤ offset + 1 + length bytes =
      begins_in_chunks bytes (7 + padded first.size) (offset + 1) r e in omega (arith, l))
      (subst (λ cs. header_in wanted total known cs ≡ Ok header) (chunks_behind-first offset byte bytes long) h))
      (cases_lt (length bytes) 7)
    where
      none : (r : Option Sampling) → header_in wanted total r [] ≡ Ok header →
          header.start ≤ offset + length (byte ∷ bytes)
      none None e = no_header _ header e
      none (Some r) e = no_header _ header e

-- ---- the first words

words_are_right : (r w : Bool) (said : Result Header (HeaderFault × ℕ)) (header : Header) →
    words r w said ≡ Ok header → (r ≡ false) × (w ≡ false) × (said ≡ Ok header)
words_are_right true w said header e = no_header _ header e
words_are_right false true said header e = no_header _ header e
words_are_right false false said header e = (refl, refl, e)

pub short_is_other : (xs ys : List ℕ) → length xs < length ys → bytes_eq xs ys ≡ false
short_is_other xs [] h = absurd (omega (arith, h))
short_is_other [] (y ∷ ys) h = refl
short_is_other (x ∷ xs) (y ∷ ys) h = let e : bytes_eq xs ys ≡ false = short_is_other xs ys (omega (arith, h)) in
    by_first (nat_eq x y) (bytes_eq xs ys) e
  where
    by_first : (a b : Bool) → b ≡ false → a && b ≡ false
    by_first true b e = e
    by_first false b e = refl

-- ---- the law

module _ (bytes : List ℕ) (wanted : Wanted) (header : Header) (n : ℕ) (h : header_of bytes wanted ≡ Ok header)
    (before : n < header.start) where
  abbrev cut : List ℕ
  cut = take n bytes

  right : (not (bytes_eq (take 4 bytes) (codes "RIFF")) ≡ false) ×
      (not (bytes_eq (take 4 (drop 8 bytes)) (codes "WAVE")) ≡ false) ×
      (header_in wanted (length bytes) None (chunks bytes) ≡ Ok header)
  right = words_are_right _ _ _ header h

  long : 12 ≤ length bytes
  long =
      ⊎_elim
      (λ (short : length bytes < 12). no_header _ header
      (subst (λ cs. header_in wanted (length bytes) None cs ≡ Ok header) (short_file bytes short) right.2))
      (λ (enough : 12 ≤ length bytes). enough)
      (cases_lt (length bytes) 12)

  inside : n ≤ length bytes
  inside =
      let start : header.start ≤ 12 + length (drop 12 bytes) =
      begins_in_chunks wanted (length bytes) header (drop 12 bytes) 0 12 None right.2 in
      omega (arith, start, length-drop 12 bytes, before, long)

  size : length cut ≡ n
  size = length-take-le n bytes inside

  whole : cut ++ drop n bytes ≡ bytes
  whole = take-append-drop n bytes

  first_word : 4 ≤ n → take 4 cut ≡ take 4 bytes
  first_word room = sym (take-append-le 4 cut (drop n bytes) (omega (arith, size, room))) ∙ ap (take 4) whole

  second_word : 12 ≤ n → take 4 (drop 8 cut) ≡ take 4 (drop 8 bytes)
  second_word room = sym (piece-append 4 8 cut (drop n bytes) (omega (arith, size, room))) ∙
      ap (λ l. take 4 (drop 8 l)) whole

  -- the words of the cut file, as they are known
  by_words : (r w : Bool) → not (bytes_eq (take 4 cut) (codes "RIFF")) ≡ r →
      not (bytes_eq (take 4 (drop 8 cut)) (codes "WAVE")) ≡ w →
      header_of cut wanted ≡ words r w (header_in wanted (length cut) None (chunks cut))
  by_words r w e e' = ap₂ (λ (a b : Bool). words a b (header_in wanted (length cut) None (chunks cut))) e e'

  in_riff : n < 4 → header_of cut wanted ≡ Err (NotRiff, 0)
  in_riff short =
      by_words true (not (bytes_eq (take 4 (drop 8 cut)) (codes "WAVE")))
      (ap not (short_is_other (take 4 cut) (codes "RIFF") (omega (arith, length-take 4 cut, size, short)))) refl

  riff_is_there : 4 ≤ n → not (bytes_eq (take 4 cut) (codes "RIFF")) ≡ false
  riff_is_there room = ap (λ l. not (bytes_eq l (codes "RIFF"))) (first_word room) ∙ right.0

  in_wave : 4 ≤ n → n < 12 → header_of cut wanted ≡ Err (NotWave, 8)
  in_wave room short =
      by_words false true (riff_is_there room) (ap not (short_is_other (take 4 (drop 8 cut)) (codes "WAVE")
      (omega (arith, length-take 4 (drop 8 cut), length-drop 8 cut, size, short))))

  in_chunks : 12 ≤ n → header_of cut wanted ≡ Err (NoSamples, n)
  in_chunks room =
      let parts : n ≡ 12 + (n - 12) = omega (arith, room) in
      let behind : drop 12 cut ≡ take (n - 12) (drop 12 bytes) = ap (λ k. drop 12 (take k bytes)) parts ∙
      drop-take 12 (n - 12) bytes in
      by_words false false (riff_is_there (omega (arith, room)))
      (ap (λ l. not (bytes_eq l (codes "WAVE"))) (second_word room) ∙ right.1)
      ∙ ap₂ (λ (k : ℕ) (l : List ℕ). header_in wanted k None (chunks_behind 0 12 l)) size behind
      ∙ cut_in_chunks wanted (length bytes) n header (drop 12 bytes) (n - 12) 0 12 None (omega (arith, room, before))
      right.2

  pub cut_header : header_fault cut wanted ≡ Some (cut_fault n)
  cut_header =
      ⊎_elim
      (λ (short : n < 4). ap result_err (in_riff short) ∙
      ap Some (let e : cut_fault n ≡ (NotRiff, 0) = grind (arith, common_steps, short) in sym e))
      (λ (four : 4 ≤ n). ⊎_elim
      (λ (short : n < 12). ap result_err (in_wave four short) ∙
      ap Some (let e : cut_fault n ≡ (NotWave, 8) = grind (arith, common_steps, short, four) in sym e))
      (λ (twelve : 12 ≤ n). ap result_err (in_chunks twelve) ∙
      ap Some (let e : cut_fault n ≡ (NoSamples, n) = grind (arith, common_steps, twelve) in sym e))
      (cases_lt n 12))
      (cases_lt n 4)
