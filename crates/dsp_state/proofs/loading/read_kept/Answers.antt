use Rattle.std.proofs.Common.{◌≡◌, ◌∙◌, ap, refl, sym, subst, ◌+◌, ◌-◌, ◌*◌, ◌<◌, ◌≤◌, length, take, drop, arith}
use Rattle.dsp_defs.specs.Shape.{gathered}
use Rattle.dsp_defs.specs.Signal.{values}
use Rattle.dsp_defs.specs.StateBytes.{number_of}
use Rattle.dsp_defs.specs.StateFields.{HasFrames, InNumbers, ManyFrames, OtherNumbers, count_in, frames_in_state}
use Rattle.dsp_defs.specs.StateFields.{frames_place, numbers_in, numbers_place}
use Rattle.dsp_defs.specs.declared.limits.TheConstants.{MAX_GATHERED, MAX_INPUT}
use Rattle.dsp_state.specs.SavedState.{IsLoadFault}
use Rattle.dsp_state.proofs.LoadLaws as laws
use Rattle.dsp_state.proofs.NumberLaws.{from_place}
use Rattle.dsp_state.proofs.loading.read_kept.Goals as goal

pub returns-then-gathered-clause-err : goal.returns-then-gathered-clause-err
returns-then-gathered-clause-err g c =
    let bytes = c.args.bytes.now in
    let script = c.args.script.now in
    let all : c.gathered.result ≡ gathered script.blocks (frames_in_state bytes) =
    laws.gathers_as script c.default_block.result c.in_ok-chain.chain c.in_ok-chain.ensures c.from.result
    c.gathered.result c.gathered.ensures
    ∙ ap (gathered script.blocks) (c.from.ensures ∙ c.requires.frames) in
    let many : MAX_GATHERED < gathered script.blocks (frames_in_state bytes) =
    subst (λ n. MAX_GATHERED < n) all c.if-gathered.true in
    let place : c.args.at - 4 ≡ frames_place bytes = omega (arith, c.requires.at) in
    subst (λ fault. IsLoadFault fault bytes) (sym c.state_fault.ensures)
    (c.requires.short, ManyFrames script c.requires.text c.requires.long many place)

pub returns-then-count-rest-clause-err : goal.returns-then-count-rest-clause-err
returns-then-count-rest-clause-err g c =
    let bytes = c.args.bytes.now in
    let script = c.args.script.now in
    let chain = c.in_ok-chain.chain in
    let new = c.in_ok-chain.ensures in
    let count : c.kept_count_of-count.result ≡ count_in bytes script =
    laws.count_is script c.default_block.result chain new bytes c.from-2.result c.kept_count_of-count.result
    c.kept_count_of-count.ensures (c.from-2.ensures ∙ c.requires.frames) in
    let has : HasFrames bytes script =
    laws.has_frames script c.default_block.result chain new bytes c.requires.text c.requires.long c.from.result
    c.gathered.result c.gathered.ensures (c.from.ensures ∙ c.requires.frames) c.if-gathered.false in
    let cut : length bytes < numbers_place bytes + c.kept_count_of-count.result * 8 =
    omega (arith, c.if-count-rest.true, c.requires.at) in
    subst (λ fault. IsLoadFault fault bytes) (sym c.state_fault-then-count-rest.ensures)
    (c.requires.short, (InNumbers script has (subst (λ n. length bytes < numbers_place bytes + n * 8) count cut), refl))

pub returns-then-not-fits-clause-err : goal.returns-then-not-fits-clause-err
returns-then-not-fits-clause-err g c =
    let bytes = c.args.bytes.now in
    let script = c.args.script.now in
    let chain = c.in_ok-chain.chain in
    let new = c.in_ok-chain.ensures in
    let block = c.default_block.result in
    let count : c.kept_count_of-count.result ≡ count_in bytes script =
    laws.count_is script block chain new bytes c.from-2.result c.kept_count_of-count.result
    c.kept_count_of-count.ensures (c.from-2.ensures ∙ c.requires.frames) in
    let has : HasFrames bytes script =
    laws.has_frames script block chain new bytes c.requires.text c.requires.long c.from.result c.gathered.result
    c.gathered.ensures (c.from.ensures ∙ c.requires.frames) c.if-gathered.false in
    let piece = from_place bytes c.args.at (numbers_place bytes) c.requires.at in
    let are : c.in_ok-numbers.numbers.items ≡ numbers_in bytes (count_in bytes script) =
    c.in_ok-numbers.ensures ∙ (λ i. values (count i) (λ k. number_of (take 8 (drop (k * 8) (piece i))))) in
    let within : numbers_place bytes + c.kept_count_of-count.result * 8 ≤ length bytes =
    omega (arith, c.if-count-rest.false, c.requires.at, c.requires.long) in
    let few : c.from-3.result ≤ MAX_INPUT = omega (arith, c.from-3.ensures, c.ranges.frames.fits) in
    let other = laws.unfit script block chain new bytes c.from-3.result c.deref.result.now c.fits.result
    c.fits.ensures (c.from-3.ensures ∙ c.requires.frames) (c.deref.ensures.value ∙ are) few c.if-not-fits.true in
    subst (λ fault. IsLoadFault fault bytes) (sym c.state_fault-then-not-fits.ensures) (
      c.requires.short,
      OtherNumbers script has (subst (λ n. numbers_place bytes + n * 8 ≤ length bytes) count within)
          other c.requires.at,
    )

pub returns-then-count-rest-2-clause-err : goal.returns-then-count-rest-2-clause-err
returns-then-count-rest-2-clause-err g c =
    let bytes = c.args.bytes.now in
    let script = c.args.script.now in
    let chain = c.in_ok-chain.chain in
    let new = c.in_ok-chain.ensures in
    let block = c.default_block.result in
    let count : c.kept_count_of-count.result ≡ count_in bytes script =
    laws.count_is script block chain new bytes c.from-2.result c.kept_count_of-count.result
    c.kept_count_of-count.ensures (c.from-2.ensures ∙ c.requires.frames) in
    let has : HasFrames bytes script =
    laws.has_frames script block chain new bytes c.requires.text c.requires.long c.from.result c.gathered.result
    c.gathered.ensures (c.from.ensures ∙ c.requires.frames) c.if-gathered.false in
    let piece = from_place bytes c.args.at (numbers_place bytes) c.requires.at in
    let are : c.in_ok-numbers.numbers.items ≡ numbers_in bytes (count_in bytes script) =
    c.in_ok-numbers.ensures ∙ (λ i. values (count i) (λ k. number_of (take 8 (drop (k * 8) (piece i))))) in
    let within : numbers_place bytes + c.kept_count_of-count.result * 8 ≤ length bytes =
    omega (arith, c.if-count-rest.false, c.requires.at, c.requires.long) in
    let more : numbers_place bytes + c.kept_count_of-count.result * 8 < length bytes =
    omega (arith, c.if-count-rest-2.true, c.requires.at) in
    let place : c.args.at + 8 * c.kept_count_of-count.result ≡ numbers_place bytes + c.kept_count_of-count.result * 8
    = omega (arith, c.requires.at) in
    let fits = laws.fit script block chain new bytes c.from-3.result c.deref.result.now c.fits.result c.fits.ensures
    (c.from-3.ensures ∙ c.requires.frames) (c.deref.ensures.value ∙ are) c.if-not-fits.false in
    subst (λ fault. IsLoadFault fault bytes) (sym c.state_fault-then-count-rest-2.ensures) (
      c.requires.short,
      (
        script,
        record {
          before = has;
          long = subst (λ n. numbers_place bytes + n * 8 ≤ length bytes) count within;
          fit =
              fits;
        },
        subst (λ n. numbers_place bytes + n * 8 < length bytes) count more,
        place ∙ ap (λ n. numbers_place bytes + n * 8) count,
      ),
    )

pub returns-clause-fields : goal.returns-clause-fields
returns-clause-fields g c =
    let bytes = c.args.bytes.now in
    let script = c.args.script.now in
    let chain = c.in_ok-chain.chain in
    let new = c.in_ok-chain.ensures in
    let block = c.default_block.result in
    let count : c.kept_count_of-count.result ≡ count_in bytes script =
    laws.count_is script block chain new bytes c.from-2.result c.kept_count_of-count.result
    c.kept_count_of-count.ensures (c.from-2.ensures ∙ c.requires.frames) in
    let has : HasFrames bytes script =
    laws.has_frames script block chain new bytes c.requires.text c.requires.long c.from.result c.gathered.result
    c.gathered.ensures (c.from.ensures ∙ c.requires.frames) c.if-gathered.false in
    let piece = from_place bytes c.args.at (numbers_place bytes) c.requires.at in
    let are : c.in_ok-numbers.numbers.items ≡ numbers_in bytes (count_in bytes script) =
    c.in_ok-numbers.ensures ∙ (λ i. values (count i) (λ k. number_of (take 8 (drop (k * 8) (piece i))))) in
    let within : numbers_place bytes + c.kept_count_of-count.result * 8 ≤ length bytes =
    omega (arith, c.if-count-rest.false, c.requires.at, c.requires.long) in
    let fits = laws.fit script block chain new bytes c.from-3.result c.deref.result.now c.fits.result c.fits.ensures
    (c.from-3.ensures ∙ c.requires.frames) (c.deref.ensures.value ∙ are) c.if-not-fits.false in
    record { before = has; long = subst (λ n. numbers_place bytes + n * 8 ≤ length bytes) count within; fit = fits }

pub returns-clause-ends : goal.returns-clause-ends
returns-clause-ends g c =
    let bytes = c.args.bytes.now in
    let script = c.args.script.now in
    let count : c.kept_count_of-count.result ≡ count_in bytes script =
    laws.count_is script c.default_block.result c.in_ok-chain.chain c.in_ok-chain.ensures bytes c.from-2.result
    c.kept_count_of-count.result c.kept_count_of-count.ensures (c.from-2.ensures ∙ c.requires.frames) in
    let all : length bytes ≡ numbers_place bytes + c.kept_count_of-count.result * 8 =
    omega (arith, c.if-count-rest.false, c.if-count-rest-2.false, c.requires.at, c.requires.long) in
    all ∙ ap (λ n. numbers_place bytes + n * 8) count

pub returns-clause-numbers : goal.returns-clause-numbers
returns-clause-numbers g c =
    let bytes = c.args.bytes.now in
    let script = c.args.script.now in
    let count : c.kept_count_of-count.result ≡ count_in bytes script =
    laws.count_is script c.default_block.result c.in_ok-chain.chain c.in_ok-chain.ensures bytes c.from-2.result
    c.kept_count_of-count.result c.kept_count_of-count.ensures (c.from-2.ensures ∙ c.requires.frames) in
    let piece = from_place bytes c.args.at (numbers_place bytes) c.requires.at in
    c.in_ok-numbers.ensures ∙ (λ i. values (count i) (λ k. number_of (take 8 (drop (k * 8) (piece i)))))

pub new-requires-clause-legal : goal.new-requires-clause-legal
new-requires-clause-legal g c =
    let runs = c.requires.text.runs in
    rw c.default_block.ensures (c.default_length_is_legal.ensures c.args.script.now runs.block runs.sound runs.legal)
