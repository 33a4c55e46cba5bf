-- A window before and after a block is pushed, over plain lists.
use Rattle.std.proofs.Common.{◌≡◌, ◌∙◌, ap, sym, ℕ, ◌+◌, ◌-◌, ◌<◌, ◌≤◌, ℤ, pos, List, ◌++◌, length, map, take, drop}
use Rattle.std.proofs.Common.{replicate, arith, length-append, length-drop, length-take-le, take_at}
use Rattle.std.proofs.lemmas.List.{length-map, length-replicate, drop-take, drop-map, take-map, map-append}
use Rattle.std.proofs.lemmas.List.{take-replicate, get_or-drop, get_or-take}
use Rattle.dsp_defs.specs.Signal.{sample}
use Rattle.dsp_defs.specs.Streaming.{last_of}
use Rattle.dsp_defs.proofs.Streaming.{last_of-append}
use Rattle.dsp_window.specs.Rolling.{last_samples}

pub length-last_of : (count : ℕ) (x : List ℤ) → length (last_of count x) ≡ count
length-last_of count x = simp (length-drop, length-append, length-replicate) (omega arith)

-- the samples that `roll` moves to the front are the last of the window
last_is :
    {X : Type 0} → (number : X → ℤ) (past filled : ℕ) (samples : List X) → past ≤ filled → filled ≤ length samples →
    map number (take past (drop (filled - past) samples)) ≡ last_samples past (map number (take filled samples))
last_is number past filled samples within fits =
    let parts : (filled - past) + past ≡ filled = omega arith in
    let long : length (map number (take filled samples)) ≡ filled = length-map (take filled samples) number ∙
    length-take-le filled samples fits in
    let same : filled - past ≡ length (map number (take filled samples)) - past = omega arith in
    ap (map number) (sym (drop-take (filled - past) past samples) ∙
    ap (λ m. drop (filled - past) (take m samples)) parts)
    ∙ sym (drop-map number (filled - past) (take filled samples))
    ∙ ap (λ m. drop m (map number (take filled samples))) same

-- and one of them
pub last_sample_is :
    {X : Type 0} → (number : X → ℤ) (past filled k : ℕ) (samples : List X) → past ≤ filled → filled ≤ length samples →
    k < past →
    sample (map number samples) (filled - past + k) ≡ sample (last_samples past (map number (take filled samples))) k
last_sample_is number past filled k samples within fits below =
    let shown = map number (take filled samples) in
    let long : length shown ≡ filled = length-map (take filled samples) number ∙ length-take-le filled samples fits in
    let same : length shown - past ≡ filled - past = omega arith in
    sym (get_or-take filled (map number samples) (filled - past + k) (pos 0) (omega arith))
    ∙ ap (λ l. sample l (filled - past + k)) (take-map number filled samples)
    ∙ sym (get_or-drop (filled - past) shown k (pos 0))
    ∙ ap (λ n. sample (drop n shown) k) (sym same)

-- the last numbers of a window are the last of all that was pushed
pub last_shows :
    (past : ℕ) (samples before last : List ℤ) → samples ≡ last_of past before ++ last →
    last_samples past samples ≡ last_of past (before ++ last)
last_shows past samples before last shows =
    let long : length samples - past ≡ length last = omega
    (arith, ap length shows, length-append (last_of past before) last, length-last_of past before) in
    ap (λ m. drop m samples) long ∙ ap (drop (length last)) shows ∙ sym (last_of-append past before last)

-- what the window shows once the samples have moved and the block has come
pub rolled :
    {X : Type 0} → (number : X → ℤ) (past filled count size : ℕ) (samples lent after block : List X) →
    past ≤ filled → filled ≤ length samples → lent ≡ samples → length after ≡ size →
    take (past + count) after ≡ take past (drop (filled - past) lent) ++ block →
    map number (take (past + count) (take size (after ++ drop (length after) samples))) ≡ last_samples past
    (map number (take filled samples)) ++ map number block
rolled number past filled count size samples lent after block within fits is_lent kept moved =
    ap (λ l. map number (take (past + count) l)) (take_at after (drop (length after) samples) size kept)
    ∙ ap (map number) (moved ∙ ap (λ l. take past (drop (filled - past) l) ++ block) is_lent)
    ∙ map-append number (take past (drop (filled - past) samples)) block
    ∙ ap (λ l. l ++ map number block) (last_is number past filled samples within fits)

pub length-last_samples : (past : ℕ) (samples : List ℤ) → past ≤ length samples →
    length (last_samples past samples) ≡ past
length-last_samples past samples within = simp length-drop (omega arith)

-- a window of zeros
pub zeros_are :
    {X : Type 0} → (number : X → ℤ) (past block : ℕ) (samples : List X) →
    map number samples ≡ replicate (past + block) (pos 0) →
    map number (take past samples) ≡ replicate past (pos 0)
zeros_are number past block samples zero =
    sym (take-map number past samples) ∙ ap (take past) zero ∙ take-replicate past (past + block) (pos 0) (omega arith)

pub zeros_long :
    {X : Type 0} → (number : X → ℤ) (count : ℕ) (samples : List X) → map number samples ≡ replicate count (pos 0) →
    length samples ≡ count
zeros_long number count samples zero = sym (length-map samples number) ∙ ap length zero ∙ length-replicate count (pos 0)
