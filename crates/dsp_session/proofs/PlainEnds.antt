-- The end of a stream over a whole input.
use Rattle.std.proofs.Common.{◌≡◌, ℕ, ◌+◌, ◌/◌, Bool, List, length, Option, Some, None, refl, sym, ap, ◌∙◌, subst, Ok}
use Rattle.std.proofs.Common.{Err}
use Rattle.dsp_ports.specs.Ports.{SourceState, SinkState}
use Rattle.dsp_ports.specs.declared.source.Failed.{Failed}
use Rattle.dsp_defs.specs.Block.{Frame}
use Rattle.dsp_defs.specs.Counts.{Counts}
use Rattle.dsp_defs.specs.Output.{output_pad}
use Rattle.dsp_defs.specs.Shape.{window_at}
use Rattle.dsp_defs.specs.declared.script.Script.{Script}
use Rattle.dsp_defs.specs.declared.wave.Header.{Header}
use Rattle.dsp_input.specs.Taking.{frame_bytes}
use Rattle.dsp_session.specs.SessionState.{SessionState}
use Rattle.dsp_session.specs.Session.{IsReady, signal, measured}
use Rattle.dsp_session.specs.Stream.{Stopped, StaysRefused, Done}
use Rattle.dsp_session.specs.Passing.{Passes, FailsToPass, Passed}
use Rattle.dsp_session.specs.Advancing.{PassesOn, Closed, FailsToClose, Windowed, Unpassed, Unfinished, count_of}
use Rattle.dsp_session.specs.Advancing.{whole_front}
use Rattle.dsp_session.specs.declared.fault.StreamFault.{StreamFault}
use Rattle.dsp_session.specs.declared.streaming.Last.{Last}
use Rattle.dsp_session.proofs.CloseLaws as laws
use Rattle.dsp_session.proofs.EndLaws.{writes_rest}
use Rattle.dsp_session.proofs.PlainLaws.{passes_plain, fails_plain, refused_on}

module _ (session : SessionState) (ready : IsReady session.script session.block) (header : Header) (piece : List ℕ)
    (last : Last) (input now : SourceState) (sink then : SinkState) (before counts : Counts)
    (passed : Passed session.script session.block session header piece last input now sink then before counts) where
  abbrev bytes : List ℕ
  bytes = whole_front session.script header last.count piece

  abbrev x : List Frame
  x = signal session.script header.coding passed.heard

  coding : session.coding ≡ header.coding
  coding = passed.coding_is

  fed_count : count_of session bytes ≡ last.count / frame_bytes session.script header.coding
  fed_count =
      ap (λ c. length (signal session.script c bytes)) coding
      ∙ laws.fed_frames session.script session.block ready session header piece last input now sink then
      before counts passed

  window : (found : Option (ℕ × ℕ)) → window_at session.script.blocks (session.chain.frames + count_of session bytes)
      ≡ found
      → window_at session.script.blocks (session.chain.frames + last.count / frame_bytes session.script header.coding)
      ≡ found
  window found is = ap (λ n. window_at session.script.blocks (session.chain.frames + n)) (sym fed_count) ∙ is

  coded : (fed : SessionState) (mid : SinkState) (made : Counts) → PassesOn session fed bytes then mid counts made →
      Passes session.banked session.script header.coding x bytes fed then mid counts made
  coded fed mid made passes =
      subst (λ c. Passes session.banked session.script c x bytes fed then mid counts made) coding
      (passes_plain session fed bytes then mid counts made passes x passed.stands)

  pub closed_plain : (new : SessionState) (final : SinkState) (spent : Counts) → Closed session new header bytes then
      final counts spent
      → Done session.banked session.script session.block
      ((last.before + last.count) / frame_bytes session.script header.coding) input now sink final before spent
      (measured new)
  closed_plain new final spent closed =
      let passes = coded closed.fed closed.then closed.made closed.passes in
      laws.stream_done session.script session.block ready session header piece last input now sink then
      before counts passed (sym (window None closed.no_window))
      closed.fed closed.then closed.made closed.passes.same passes {E = Failed} final spent
      ((last.before + last.count) / frame_bytes session.script header.coding)
      (writes_rest {T = Unit {0}} {E = Failed} (Ok tt) closed.fed (output_pad closed.fed.script header) closed.then
      final closed.writes _ passes.stands) (closed.costs _ passes.stands) closed.turned closed.settled
      closed.no_fault refl
      (measured new) (closed.measures _ passes.stands)

  pub unclosed_plain : (new : SessionState) (stop : StreamFault) (final : SinkState) (spent : Counts) →
      FailsToClose session new header bytes stop then final counts spent
      → Stopped session.banked session.script session.block stop input now sink final before spent
  unclosed_plain new stop final spent (Windowed end full is found still made) =
      let stopped = laws.stops_window session.script session.block ready session header piece last input now sink then
      before counts passed end full (window (Some (end, full)) found) in
      subst (λ c. Stopped session.banked session.script session.block stop input now sink final before c) (sym made)
      (subst (λ s. Stopped session.banked session.script session.block stop input now sink s before counts) (sym still)
      (subst (λ f. Stopped session.banked session.script session.block f input now sink then before counts) (sym is)
      stopped))
  unclosed_plain new stop final spent (Unpassed none fails) =
      laws.stops_unpassed session.script session.block ready session header piece last input now sink then
      before counts passed (sym (window None none)) stop final spent
      (subst (λ c. FailsToPass stop session.banked session.script c x bytes then final counts spent) coding
      (fails_plain stop session new bytes then final counts spent fails x passed.stands))
  unclosed_plain new stop final spent
      (Unfinished fed mid made error is none passes writes costs limit turned failed) =
      let coded_passes = coded fed mid made passes in
      subst (λ f. Stopped session.banked session.script session.block f input now sink final before spent) (sym is)
      (laws.stream_unfinished session.script session.block ready session header piece last input now sink then
      before counts passed (sym (window None none))
      fed mid made passes.same coded_passes error final spent
      (writes_rest {T = Unit {0}} (Err error) fed (output_pad fed.script header) mid final writes _
      coded_passes.stands) (costs _ coded_passes.stands) turned failed)

pub unclosed_stays : (session new : SessionState) (header : Header) (bytes : List ℕ) (stop : StreamFault)
    (sink after : SinkState) (before counts : Counts)
    → FailsToClose session new header bytes stop sink after before counts → StaysRefused stop new
unclosed_stays session new header bytes stop sink after before counts (Windowed end full is found still made) =
    subst (λ f. StaysRefused f new) (sym is) tt
unclosed_stays session new header bytes stop sink after before counts (Unpassed none fails) =
    refused_on stop session new bytes sink after before counts fails
unclosed_stays session new header bytes stop sink after before counts
    (Unfinished fed mid made error is none passes writes costs limit turned failed) =
    subst (λ f. StaysRefused f new) (sym is) tt

-- the same of equal scripts and block lengths
pub stopped_as :
    (banked same_banked : Bool) (script same_script : Script) (block same_block : ℕ) (stop : StreamFault)
    (input now : SourceState) (sink after : SinkState)
    (before counts : Counts) → banked ≡ same_banked → script ≡ same_script → block ≡ same_block
    → Stopped banked script block stop input now sink after before counts →
    Stopped same_banked same_script same_block stop input now sink after before counts
stopped_as banked same_banked script same_script block same_block stop input now sink after before counts k s b
    stopped =
    subst (λ t. Stopped t same_script same_block stop input now sink after before counts) k
    (subst (λ (t : Script). Stopped banked t same_block stop input now sink after before counts) s
    (subst (λ n. Stopped banked script n stop input now sink after before counts) b stopped))
