-- A conversion keeps the signal, and back gives it again.
use Rattle.std.proofs.Common.{◌≡◌, ◌≢◌, ℕ, ◌+◌, ◌-◌, ◌*◌, ◌/◌, ◌^◌, ◌<◌, ◌≤◌, ℤ, List, [], ◌++◌, length, take, drop}
use Rattle.std.proofs.Common.{Option, Some, None, IfSome, refl, sym, ap, ◌∙◌, subst, arith, append-nil, append_assoc}
use Rattle.std.proofs.Common.{length-append, length-drop, length-take-le}
use Rattle.std.specs.Option.{option_map}
use Rattle.std.specs.Result.{result_ok}
use Rattle.std.proofs.lemmas.List.{take-append-le, take_all, length-take}
use Rattle.std.proofs.Math.Seq.{drop-append_seam}
use Rattle.dsp_defs.specs.Au.{Form, WaveForm, AuForm, HasSignal, KeepsSignal, form_bytes_of, form_coded, form_header}
use Rattle.dsp_defs.specs.Au.{form_header_of, form_pad, form_sample_of, form_samples, form_signal, form_written}
use Rattle.dsp_defs.specs.Au.{open_declared_frames, open_frame_bytes, source_header, source_signal, target, target_form}
use Rattle.dsp_defs.specs.Block.{Frame}
use Rattle.dsp_defs.specs.Bytes.{IsValue, width}
use Rattle.dsp_defs.specs.Open.{IsOpenGood, OpenFits}
use Rattle.dsp_defs.specs.Output.{sample_bytes_at}
use Rattle.dsp_defs.specs.Wave.{data_bytes, pad_of_width}
use Rattle.dsp_defs.specs.declared.au.Direction.{Direction}
use Rattle.dsp_defs.specs.declared.au.Direction.TheVariants.{WaveToAu, AuToWave}
use Rattle.dsp_defs.specs.declared.wave.OpenHeader.{OpenHeader}
use Rattle.dsp_defs.proofs.AuLaws.{au_header_of-au_header, open_header_of-open_wave_header}
use Rattle.dsp_defs.proofs.CodingLemmas.{width-some}
use Rattle.dsp_au.proofs.ExchangeLaws.{Small, small-drop, small-take}
use Rattle.dsp_au.proofs.HeaderRates.{form_said}
use Rattle.dsp_au.proofs.WholeLaws.{target_is}
use Rattle.dsp_au.proofs.KeptSamples.{coded_flat, coded_long, form_wide, frames_by, piece_of_values, sample_back}
use Rattle.dsp_au.proofs.KeptSamples.{sample_value, signal_back}

-- ---- a written file is read back

-- the header of a file in a form, and bytes behind it
form_read : (form : Form) (header : OpenHeader) (rest : List ℕ) → IsOpenGood header → header.rate < 2 ^ 32 →
    OpenFits header.coding header.channels (open_declared_frames header)
    → form_header_of form (form_header form header ++ rest) ≡ Some (form_written form header)
form_read WaveForm header rest good small fits =
    ap result_ok (open_header_of-open_wave_header header.coding good.wave header.channels header.rate
    (open_declared_frames header) rest good.some good.few small fits)
form_read AuForm header rest good small fits =
    ap result_ok (au_header_of-au_header header.channels header.rate (open_declared_frames header) rest good.some
    good.few small header.coding good.wave
    (au_fits (open_declared_frames header) fits))
  where
    au_fits : (frames : Option ℕ) → OpenFits header.coding header.channels frames →
        IfSome frames (λ n. data_bytes (width header.coding) header.channels (Some n) < 2 ^ 32 - 1)
    au_fits None h = tt
    au_fits (Some n) h = omega (arith, h)

-- the bytes of a sample of a file
abbrev piece_at : OpenHeader → List ℕ → ℕ → List ℕ
piece_at header bytes k = take (width header.coding) (drop (k * width header.coding) bytes)

-- and the samples, one after another
abbrev sample_at : Form → OpenHeader → List ℕ → ℕ → ℤ
sample_at form header bytes k = form_sample_of form header.coding (piece_at header bytes k)

-- a file of a form whose header is good and whose samples are values
record IsSound (form : Form) (header : OpenHeader) (bytes : List ℕ) : Type 0 where
  has : form_header_of form bytes ≡ Some header
  good : IsOpenGood header
  rate : header.rate < 2 ^ 32
  whole : IfSome header.size (λ size. header.start + size / open_frame_bytes header * open_frame_bytes header ≤ length
      bytes)
  fits : OpenFits header.coding header.channels (open_declared_frames header)
  values_are : let from = sample_bytes_at header.start header.size bytes in
      (k : ℕ) → k < length from / open_frame_bytes header * header.channels →
      IsValue header.coding (sample_at form header from k)

-- ---- numbers of bytes

product_some : (a b : ℕ) → 1 ≤ a → 0 < b → 0 < a * b
product_some a b some more = grind arith

floor_within : (size k : ℕ) → 0 < k → size / k * k ≤ size
floor_within size k some = grind arith

same_quotient : (size less k : ℕ) → 0 < k → less ≤ size → size / k * k ≤ less → less / k ≡ size / k
same_quotient size less k some within front = grind arith

whole_quotient : (m a b : ℕ) → 0 < a * b → m * a * b / (a * b) ≡ m
whole_quotient m a b some = grind (arith, product m a b, count m (a * b) some)
  where
    product : (m a b : ℕ) → m * a * b ≡ m * (a * b)
    product m a b = omega arith

    count : (m k : ℕ) → 0 < k → m * k / k ≡ m
    count m k some = grind arith

regroup : (m a b : ℕ) → m * (a * b) ≡ m * a * b
regroup m a b = omega arith

piece_within : (k n channels w size : ℕ) → k < n * channels → n * (channels * w) ≤ size → k * w + w ≤ size
piece_within k n channels w size below room = grind (arith, rise k (n * channels) w below, regroup n channels w)
  where
    rise : (k m w : ℕ) → k < m → k * w + w ≤ m * w
    rise k m w h = grind arith

take_long : {A : Type 0} (size : ℕ) (xs : List A) → (length (take size xs) ≤ size) ×
    (length (take size xs) ≤ length xs) × ((n : ℕ) → n ≤ size → n ≤ length xs → n ≤ length (take size xs))
take_long size xs = let is = length-take size xs in (
  omega (arith, is),
  omega (arith, is),
  λ n few room. omega (arith, is, few, room),
)

-- ---- the file in a form that has the signal of a source

-- what its header says, in one way for both forms
abbrev said_of : Form → OpenHeader → OpenHeader
said_of form header = record {
  rate = header.rate;
  start = length (form_header form header);
  size = option_map (λ m. data_bytes (width header.coding) header.channels (Some m)) (open_declared_frames header);
  coding = header.coding;
  channels = header.channels;
}

said_is : (form : Form) (header : OpenHeader) → form_written form header ≡ said_of form header
said_is WaveForm header = refl
said_is AuForm header = refl

module _ (source form : Form) (header : OpenHeader) (bytes : List ℕ) (sound : IsSound source header bytes) where
  abbrev w : ℕ
  w = width header.coding

  abbrev from : List ℕ
  from = sample_bytes_at header.start header.size bytes

  abbrev n : ℕ
  n = length from / open_frame_bytes header

  abbrev h : ℕ → ℤ
  h k = sample_at source header from k

  abbrev x : List Frame
  x = frames_by h header.channels n

  abbrev body : List ℕ
  body = form_coded form header.coding x

  abbrev frames : Option ℕ
  frames = open_declared_frames header

  abbrev file : List ℕ
  file = form_header form header ++ (body ++ form_pad form header)

  some : 0 < header.channels * w
  some = product_some header.channels w sound.good.some (width-some header.coding)

  wide : (z : ℤ) → length (form_bytes_of form header.coding z) ≡ w
  wide z = form_wide form header.coding z sound.good.wave

  sample_is : (k : ℕ) → k < n * header.channels → form_sample_of form header.coding
      (form_bytes_of form header.coding (h k)) ≡ h k
  sample_is k below = sample_back form header.coding (h k) sound.good.wave (sound.values_are k below)

  signal_is : form_samples form header.coding header.channels body ≡ x
  signal_is = signal_back (form_sample_of form header.coding) (form_bytes_of form header.coding) w header.channels n h
      wide some sample_is

  body_long : length body ≡ n * (header.channels * w)
  body_long = coded_long (form_sample_of form header.coding) (form_bytes_of form header.coding) w header.channels n h
      wide

  -- the frames are those that are declared
  counted : (size : Option ℕ) → IfSome size (λ size. header.start + size / open_frame_bytes header * open_frame_bytes
      header ≤ length bytes)
      → IfSome (option_map (λ size. size / open_frame_bytes header) size)
      (λ m. length (sample_bytes_at header.start size bytes) / open_frame_bytes header ≡ m)
  counted None room = tt
  counted (Some size) room =
      let (few, within, front) = take_long size (drop header.start bytes) in
      same_quotient size (length (take size (drop header.start bytes))) (open_frame_bytes header) some few
      (front (size / open_frame_bytes header * open_frame_bytes header)
      (floor_within size (open_frame_bytes header) some) (omega (arith, room, length-drop header.start bytes)))

  body_known : IfSome frames (λ m. length body ≡ data_bytes w header.channels (Some m))
  body_known = by frames (counted header.size sound.whole)
    where
      by : (frames : Option ℕ) → IfSome frames (λ m. n ≡ m) →
          IfSome frames (λ m. length body ≡ data_bytes w header.channels (Some m))
      by None is = tt
      by (Some m) is = body_long ∙ ap (λ k. k * (header.channels * w)) is ∙ regroup m header.channels w

  -- the samples of the file are its body
  no_pad : (form : Form) → frames ≡ None → form_pad form header ≡ []
  no_pad WaveForm is = ap (pad_of_width w header.channels) is
  no_pad AuForm is = refl

  taken_by : (frames : Option ℕ) (head pad : List ℕ) →
      IfSome frames (λ m. length body ≡ data_bytes w header.channels (Some m)) → (frames ≡ None → pad ≡ [])
      → sample_bytes_at (length head) (option_map (λ m. data_bytes w header.channels (Some m)) frames)
      (head ++ (body ++ pad)) ≡ body
  taken_by None head pad is none = drop-append_seam head (body ++ pad) ∙ ap (λ pad. body ++ pad) (none refl) ∙
      append-nil body
  taken_by (Some m) head pad is none =
      let size = data_bytes w header.channels (Some m) in
      ap (take size) (drop-append_seam head (body ++ pad))
      ∙ take-append-le size body pad (omega (arith, is))
      ∙ take_all size body (omega (arith, is))

  taken : sample_bytes_at (said_of form header).start (said_of form header).size file ≡ body
  taken = taken_by frames (form_header form header) (form_pad form header) body_known (no_pad form)

  file_signal : form_signal form (said_of form header) file ≡ x
  file_signal = ap (form_samples form header.coding header.channels) taken ∙ signal_is

  file_has : form_header_of form file ≡ Some (said_of form header)
  file_has = form_read form header (body ++ form_pad form header) sound.good sound.rate sound.fits ∙
      ap (λ (h : OpenHeader). Some h) (said_is form header)

  -- ---- it is a sound file itself

  sizes_small : (frames : Option ℕ) → OpenFits header.coding header.channels frames →
      IfSome (option_map (λ m. data_bytes w header.channels (Some m)) frames) (λ size. size ≢ 2 ^ 32 - 1)
  sizes_small None fits = tt
  sizes_small (Some m) fits = λ is. omega (arith, fits, is)

  room_in : (frames : Option ℕ) → IfSome frames (λ m. length body ≡ data_bytes w header.channels (Some m))
      → IfSome (option_map (λ m. data_bytes w header.channels (Some m)) frames)
      (λ size. length (form_header form header) + size / open_frame_bytes header * open_frame_bytes header ≤ length
      file)
  room_in None is = tt
  room_in (Some m) is =
      omega (
        arith,
        is,
        floor_within (data_bytes w header.channels (Some m)) (open_frame_bytes header) some,
        length-append (form_header form header) (body ++ form_pad form header),
        length-append body (form_pad form header),
      )

  declares_same : (frames : Option ℕ) → option_map (λ size. size / open_frame_bytes header)
      (option_map (λ m. data_bytes w header.channels (Some m)) frames) ≡ frames
  declares_same None = refl
  declares_same (Some m) = ap (λ k. Some k) (whole_quotient m header.channels w some)

  body_value : (k : ℕ) → k < length body / open_frame_bytes header * header.channels →
      IsValue header.coding (sample_at form header body k)
  body_value k below =
      let within : k < n * header.channels = subst (λ m. k < m * header.channels)
      (count_body (length body) n (header.channels * w) some body_long) below in
      let is : sample_at form header body k ≡ h k =
      ap (λ bytes. sample_at form header bytes k) (coded_flat (form_sample_of form header.coding)
      (form_bytes_of form header.coding) w header.channels n h wide)
      ∙ ap (form_sample_of form header.coding) (piece_of_values (form_bytes_of form header.coding) w wide h
      (n * header.channels) k within)
      ∙ sample_is k within in
      subst (IsValue header.coding) (sym is) (sound.values_are k within)
    where
      count_body : (size n k : ℕ) → 0 < k → size ≡ n * k → size / k ≡ n
      count_body size n k some is = grind arith

  file_sound : IsSound form (said_of form header) file
  file_sound = record {
    has = file_has;
    good = record {
      wave = sound.good.wave;
      some = sound.good.some;
      few = sound.good.few;
      size =
          sizes_small frames sound.fits;
    };
    rate = sound.rate;
    whole = room_in frames body_known;
    fits = subst (OpenFits header.coding header.channels) (sym (declares_same frames)) sound.fits;
    values_are = subst (λ from. (k : ℕ) → k < length from / open_frame_bytes header * header.channels →
        IsValue header.coding (sample_at form header from k)) (sym taken) body_value;
  }

-- ---- a source of bytes is sound

small_samples : (start : ℕ) (size : Option ℕ) (bytes : List ℕ) → Small bytes → Small (sample_bytes_at start size bytes)
small_samples start None bytes small = small-drop start bytes small
small_samples start (Some size) bytes small = small-take size (drop start bytes) (small-drop start bytes small)

sound_source : (form : Form) (header : OpenHeader) (bytes : List ℕ) → Small bytes →
    form_header_of form bytes ≡ Some header
    → IfSome header.size (λ size. header.start + size / open_frame_bytes header * open_frame_bytes header ≤ length
    bytes)
    → OpenFits header.coding header.channels (open_declared_frames header) → IsSound form header bytes
sound_source form header bytes small has whole fits =
    let (good, rate) = form_said form bytes header has in
    let from = sample_bytes_at header.start header.size bytes in
    let some : 0 < header.channels * width header.coding =
    product_some header.channels (width header.coding) good.some (width-some header.coding) in
    record {
      has = has;
      good = good;
      rate = rate small;
      whole = whole;
      fits = fits;
      values_are = λ k below.
          let w = width header.coding in
          let room = piece_within k (length from / open_frame_bytes header) header.channels w (length from) below
          (floor_within (length from) (open_frame_bytes header) some) in
          sample_value form header.coding (piece_at header from k) good.wave (
            length-take-le w (drop (k * w) from) (omega (arith, room, length-drop (k * w) from)),
            small-take w (drop (k * w) from) (small-drop (k * w) from
                (small_samples header.start header.size bytes small)),
          );
    }

-- ---- there and back

-- the file in the other form, its header and its samples written one after the other
target_file : (direction : Direction) (header : OpenHeader) (bytes : List ℕ) →
    source_header direction bytes ≡ Some header
    → target direction bytes ≡ form_header (target_form direction) header ++
    (form_coded (target_form direction) header.coding (source_signal direction header bytes) ++ form_pad
    (target_form direction) header)
target_file direction header bytes has =
    target_is direction bytes header has
    ∙ append_assoc (form_header (target_form direction) header)
    (form_coded (target_form direction) header.coding (source_signal direction header bytes))
    (form_pad (target_form direction) header)

pub keeps_signal : (direction : Direction) → KeepsSignal direction
keeps_signal WaveToAu header bytes c =
    let sound = sound_source WaveForm header bytes c.are_bytes c.has c.whole c.fits in
    let there = file WaveForm AuForm header bytes sound in
    let said = said_of AuForm header in
    let again = file_sound WaveForm AuForm header bytes sound in
    subst (λ t. HasSignal AuToWave said t (form_signal WaveForm header bytes) ×
    HasSignal WaveToAu (said_of WaveForm said) (target AuToWave t) (form_signal WaveForm header bytes))
    (sym (target_file WaveToAu header bytes c.has)) (
      (file_has WaveForm AuForm header bytes sound, file_signal WaveForm AuForm header bytes sound),
      subst (λ t. HasSignal WaveToAu (said_of WaveForm said) t (form_signal WaveForm header bytes))
          (sym (target_file AuToWave said there (file_has WaveForm AuForm header bytes sound))) (
            file_has AuForm WaveForm said there again,
            file_signal AuForm WaveForm said there again ∙
                file_signal WaveForm AuForm header bytes sound,
          ),
    )
keeps_signal AuToWave header bytes c =
    let sound = sound_source AuForm header bytes c.are_bytes c.has c.whole c.fits in
    let there = file AuForm WaveForm header bytes sound in
    let said = said_of WaveForm header in
    let again = file_sound AuForm WaveForm header bytes sound in
    subst (λ t. HasSignal WaveToAu said t (form_signal AuForm header bytes) ×
    HasSignal AuToWave (said_of AuForm said) (target WaveToAu t) (form_signal AuForm header bytes))
    (sym (target_file AuToWave header bytes c.has)) (
      (file_has AuForm WaveForm header bytes sound, file_signal AuForm WaveForm header bytes sound),
      subst (λ t. HasSignal AuToWave (said_of AuForm said) t (form_signal AuForm header bytes))
          (sym (target_file WaveToAu said there (file_has AuForm WaveForm header bytes sound))) (
            file_has WaveForm AuForm said there again,
            file_signal WaveForm AuForm said there again ∙
                file_signal AuForm WaveForm header bytes sound,
          ),
    )
