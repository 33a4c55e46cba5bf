-- What the end of a stream asks of its calls, from any state.
use Rattle.std.proofs.Common.{◌≡◌, ℕ, ◌+◌, ◌*◌, ◌/◌, ◌%◌, ◌<◌, ◌≤◌, List, length, Option, None, sym, ap, ◌∙◌}
use Rattle.std.proofs.Common.{arith}
use Rattle.std.proofs.lemmas.List.{length-take-le}
use Rattle.std.proofs.lemmas.Nat.{div-mul-add}
use Rattle.dsp_defs.specs.Block.{Frame}
use Rattle.dsp_defs.specs.Shape.{frames_given, window_at}
use Rattle.dsp_defs.specs.declared.limits.TheConstants.{MAX_INPUT}
use Rattle.dsp_defs.specs.declared.script.Script.{Script}
use Rattle.dsp_defs.specs.declared.wave.Header.{Header}
use Rattle.dsp_input.specs.Taking.{frame_bytes}
use Rattle.dsp_session.specs.SessionState.{SessionState}
use Rattle.dsp_chain.specs.Chain.{made_of}
use Rattle.dsp_session.specs.Session.{StandsFor, SameSession, signal, live_cost_of, products_of}
use Rattle.dsp_session.specs.Session.{whole_values}
use Rattle.dsp_session.specs.Advancing.{MayClose, Runs, count_of, whole_front}
use Rattle.dsp_session.proofs.AdvanceLaws.{made_runs}
use Rattle.dsp_session.specs.declared.streaming.Last.{Last}
use Rattle.dsp_session.proofs.OpeningLaws.{some_frame, frames-whole, less}
use Rattle.dsp_session.proofs.CloseLaws.{whole_length}
use Rattle.std.proofs.Math.Nat.{div-mul-le_self}

quotient : (a n f : ℕ) → 0 < f → (a * f + n) / f ≡ a + n / f
quotient a n f some =
    let rest : n % f < f = omega (arith, some) in
    let whole : n / f * f + n % f ≡ n = parts n f some in
    let split : a * f + n ≡ (a + n / f) * f + n % f = omega (arith, whole, spread a (n / f) f) in
    ap (λ m. m / f) split ∙ div-mul-add (a + n / f) f (n % f) rest
  where
    parts : (n f : ℕ) → 0 < f → n / f * f + n % f ≡ n
    parts n f some = grind arith

    spread : (a b f : ℕ) → (a + b) * f ≡ a * f + b * f
    spread a b f = grind arith

floor_less : (n f : ℕ) → 0 < f → n / f ≤ n
floor_less n f some = grind arith

module _ (session : SessionState) (header : Header) (block : List ℕ) (last : Last)
    (may : MayClose session header block last) where
  abbrev frame : ℕ
  frame = frame_bytes session.script header.coding

  some : 0 < frame
  some = some_frame session.script header.coding session.block may.runs.holds.ready

  abbrev count : ℕ
  count = last.count / frame

  abbrev bytes : List ℕ
  bytes = whole_front session.script header last.count block

  bytes_long : length bytes ≡ count * frame
  bytes_long = length-take-le (count * frame) block (let within = div-mul-le_self last.count frame in
      omega (arith, within, may.short))

  fed_frames : length (signal session.script header.coding bytes) ≡ count
  fed_frames = frames-whole session.script header.coding some bytes count bytes_long

  pub fed_count : count_of session bytes ≡ count
  fed_count = ap (λ c. length (signal session.script c bytes)) may.coding ∙ fed_frames

  pub fed_whole : length bytes ≡ count_of session bytes * frame_bytes session.script session.coding
  fed_whole = bytes_long ∙ (λ i. sym fed_count i * frame_bytes session.script (sym may.coding i))

  pub fed_in_block : count_of session bytes ≤ session.block
  fed_in_block = (let fewer = less last.count session.block frame some (omega (arith, may.short, may.size)) in
      omega (arith, fewer, fed_count))

  pub taken_is : (last.before + last.count) / frame ≡ session.chain.frames + count
  taken_is = ap (λ n. (n + last.count) / frame) (sym may.frames) ∙ quotient session.chain.frames last.count frame some

  pub few : session.chain.frames + count ≤ MAX_INPUT
  few = (let all = floor_less (last.before + last.count) frame some in omega (arith, all, taken_is, may.limit))

  pub fed_few : session.chain.frames + count_of session bytes ≤ MAX_INPUT
  fed_few = omega (arith, few, fed_count)

  pub window : (found : Option (ℕ × ℕ)) → window_at session.script.blocks (session.chain.frames + count) ≡ found →
      window_at session.script.blocks (session.chain.frames + count_of session bytes) ≡ found
  window found is = ap (λ n. window_at session.script.blocks (session.chain.frames + n)) fed_count ∙ is

  -- a whole signal of so many frames has those that are given
  pub tail_few : window_at session.script.blocks (session.chain.frames + count) ≡ None → (fed : SessionState) →
      SameSession session fed → fed.chain.frames ≡ session.chain.frames + count_of session bytes
      → (given : ℕ) → given ≡ frames_given session.script.blocks ((last.before + last.count) / frame) →
      (x : List Frame) → StandsFor fed x → length (whole_values fed.script x) ≤ given
  tail_few none fed same counted given is x stands =
      let all : length x ≡ session.chain.frames + count = sym stands.chain.counted ∙ counted ∙
      ap (λ n. session.chain.frames + n) fed_count in
      let whole : length (whole_values session.script x) ≡ frames_given session.script.blocks (length x) =
      whole_length session.script session.block may.runs.holds.ready x
      (ap (window_at session.script.blocks) all ∙ none) in
      let given_is : frames_given session.script.blocks (length x) ≡ given =
      ap (frames_given session.script.blocks) (all ∙ sym taken_is) ∙ sym is in
      let script : length (whole_values fed.script x) ≡ length (whole_values session.script x) =
      ap (λ (s : Script). length (whole_values s x)) same.script in
      omega (arith, whole, given_is, script)

-- the multiplies of the tail, by the frames
pub limit_is : (session fed : SessionState) → SameSession session fed → Runs fed → (made counts : ℕ) →
    counts + made_of fed.chain ≤ made + products_of fed.script fed.chain.frames
    → counts + live_cost_of session.script fed.chain.frames ≤ made + products_of session.script fed.chain.frames
limit_is session fed same runs made counts limit =
    let live : made_of fed.chain ≡ live_cost_of session.script fed.chain.frames = made_runs fed runs ∙
    ap (λ (s : Script). live_cost_of s fed.chain.frames) same.script in
    let products : products_of fed.script fed.chain.frames ≡ products_of session.script fed.chain.frames =
    ap (λ (s : Script). products_of s fed.chain.frames) same.script in
    omega (arith, limit, live, products)
