-- What stops a stream stands in its way.
use Rattle.std.proofs.Common.{◌≡◌, ℕ, ◌<◌, ◌≤◌, List, ◌++◌, length, sym, ap, ◌∙◌, subst, arith, inl, inr, None, Some}
use Rattle.dsp_ports.specs.Ports.{SourceState, SinkState, Rose, one_more, Gave}
use Rattle.dsp_defs.specs.Generator.{generated_bytes}
use Rattle.dsp_defs.specs.Output.{HasHeader, input_header, known_frames, format_of, channels_of}
use Rattle.dsp_defs.specs.Shape.{window_at}
use Rattle.dsp_defs.specs.Wave.{HeaderFits}
use Rattle.dsp_command.specs.Words.{command_of}
use Rattle.dsp_command.specs.declared.command.Command.TheVariants.{Gen}
use Rattle.dsp_defs.specs.declared.limits.TheConstants.{MAX_CHANNELS}
use Rattle.dsp_defs.specs.declared.script.Script.{Script}
use Rattle.dsp_defs.specs.declared.wave.HeaderFault.{HeaderFault}
use Rattle.dsp_session.specs.Session.{IsReady}
use Rattle.dsp_session.specs.Stream.{HasFault, IsCause, Stopped, KeepsLimits, frames_in_bytes, input_fault}
use Rattle.dsp_session.specs.declared.fault.LengthFault.{LengthFault}
use Rattle.dsp_session.specs.declared.fault.LengthFault.TheVariants as length_fault
use Rattle.dsp_session.specs.declared.fault.StreamFault.{StreamFault}
use Rattle.dsp_session.specs.declared.fault.StreamFault.TheVariants.{Header, Input, Output, Lengths}
use Rattle.dsp_session.proofs.OpeningLaws.{some_frame}
use Rattle.dsp_cli.specs.Call.{Call}
use Rattle.dsp_cli.specs.Causes.{NoneFailed}
use Rattle.dsp_cli.specs.Run.{IsGen, IsStream, IsReading, IsGood, IsFree, read_from}
use Rattle.dsp_input.specs.Taking.{Fits, InLimit, IsTooLong}
use Rattle.dsp_cli.specs.Script.{chosen_block, is_banked}
use Rattle.dsp_cli.proofs.GatherLaws.{gathered_more}
use Rattle.dsp_cli.proofs.GeneratedLaws.{generated_good, generated_in_limit}
use Rattle.dsp_input.proofs.InputLaws.{frames_stay, signal_stays, some_not_none, fault_told, past_limit}
use Rattle.dsp_input.proofs.InputLaws.{frame_in}
use Rattle.dsp_cli.proofs.ReportLaws.{rose}
use Rattle.dsp_cli.proofs.Told.{told_split}
use Rattle.dsp_cli.proofs.WordLaws.{gen_makes_few}
use Rattle.dsp_defs.proofs.OutputLaws.{input_header-append}

-- a size that fits is not too long
pub fits_not_long : (script : Script) (given more : List ℕ) (size : ℕ) → HasHeader script given →
    IsTooLong script (known_frames script (input_header script given)) size →
    Fits script (input_header script (given ++ more)) → ⊥
fits_not_long script given more size has long fits =
    let known : known_frames script (input_header script (given ++ more)) ≡ Some long.frames =
    ap (known_frames script) (input_header-append script given more has) ∙ long.known in
    let within = subst (HeaderFits script.output (format_of script) (channels_of script)) known (fits long.headed) in
    omega (arith, within, long.size_is, long.over)

-- a length past its limit, over an input of these bytes
module _ (script : Script) (block : ℕ) (given more : List ℕ) (now : SourceState) (left : now.left ≡ Some more)
    (some : 0 < frame_in script given) where
  abbrev Keeps : Type 0
  Keeps = KeepsLimits script (input_header script (given ++ more)) (frames_in_bytes script (given ++ more))

  abbrev NoWindow : Type 0
  NoWindow = window_at script.blocks (frames_in_bytes script (given ++ more)) ≡ None

  pub length_blocks : (fault : LengthFault) → IsCause (Lengths fault) script block given now →
      InLimit script (given ++ more) → NoWindow → Keeps → ⊥
  length_blocks (length_fault.Input taken most) (all, at, limit, wanted) within window keeps =
      past_limit script given more all wanted.declared within
  length_blocks (length_fault.Gather held rest) (has, full) within window keeps =
      let later = gathered_more script.blocks (frames_in_bytes script given) (frames_in_bytes script (given ++ more))
      (frames_stay script given more has) in
      absurd (omega (arith, full.over, later, keeps.not_full))
  length_blocks (length_fault.Window end full) (has, whole, found) within window keeps =
      let same : frames_in_bytes script (given ++ more) ≡ frames_in_bytes script given =
      ap length (signal_stays script given more has some now left whole) in
      let none : window_at script.blocks (frames_in_bytes script given) ≡ None =
      ap (window_at script.blocks) (sym same) ∙ window in
      cc
  length_blocks (length_fault.Riff size limit) (has, alone, long, at) within window keeps =
      fits_not_long script given more size has long keeps.fits

module _ (c : Call) (script : Script) (channels : (1 ≤ script.input.channels) ×
    (script.input.channels ≤ MAX_CHANNELS)) where
  abbrev input : SourceState
  input = read_from (command_of c.words) script.input c.port

  -- ---- a gen

  -- its input doesn't fail
  pub gen_reads : IsGen c.words → (now : SourceState) → IsReading (command_of c.words) c.port c.later now →
      now.faults ≡ one_more input.faults → ⊥
  gen_reads (seed, frames, is) now reading risen =
      let (_, clean) = subst (λ command. IsReading command c.port c.later now) is reading in
      let first : input.faults ≡ 0 = ap (λ command. (read_from command script.input c.port).faults) is in
      omega (arith, clean, risen, first)

  -- it is whole, and within the limit
  gen_good : (seed frames : ℕ) → command_of c.words ≡ Some (Gen seed frames) → (bytes : List ℕ) →
      input.left ≡ Some bytes → (input_fault script bytes ≡ None) × InLimit script bytes
  gen_good seed frames is bytes told =
      let made : Some (generated_bytes script.input seed frames) ≡ Some bytes =
      subst (λ command. (read_from command script.input c.port).left ≡ Some bytes) is told in
      let same : generated_bytes script.input seed frames ≡ bytes = cc in
      let few = gen_makes_few c.words seed frames is in
      subst (λ bytes. (input_fault script bytes ≡ None) × InLimit script bytes) same
      (generated_good script seed frames channels few, generated_in_limit script seed frames channels few)

  -- and has no fault
  pub gen_faulty : IsGen c.words → (now : SourceState) (given : List ℕ) (fault : HeaderFault × ℕ) →
      Gave input now given → HasFault script given now fault → ⊥
  gen_faulty (seed, frames, is) now given fault gave has =
      let made = generated_bytes script.input seed frames in
      let told : input.left ≡ Some made = ap (λ command. (read_from command script.input c.port).left) is in
      let (more, left, all) = told_split input.left now.left given made gave.front told in
      let found : input_fault script made ≡ Some fault = ap (input_fault script) all ∙
      fault_told script given more now fault left has in
      some_not_none (input_fault script made) fault found (gen_good seed frames is made told).0

  whole_input : IsStream c.words → (bytes : List ℕ) → input.left ≡ Some bytes →
      IsGood (command_of c.words) script bytes → (input_fault script bytes ≡ None) × InLimit script bytes
  whole_input (inl (named, banked, is)) bytes told good = subst (λ command. IsGood command script bytes) is good
  whole_input (inr (seed, frames, is)) bytes told good = gen_good seed frames is bytes told

  -- ---- where nothing stands in the way and no port has failed

  input_kept : IsStream c.words → (now : SourceState) → IsReading (command_of c.words) c.port c.later now →
      now.faults ≡ one_more input.faults → (Rose c.port.faults c.later.faults → ⊥) → ⊥
  input_kept (inl (named, banked, is)) now reading risen kept =
      let same : now ≡ c.later = subst (λ command. IsReading command c.port c.later now) is reading in
      let from : input ≡ c.port = ap (λ command. read_from command script.input c.port) is in
      let port : c.later.faults ≡ one_more c.port.faults = sym (ap (λ (s : SourceState). s.faults) same) ∙ risen ∙
      ap (λ (s : SourceState). one_more s.faults) from in
      kept (rose _ _ port)
  input_kept (inr gen) now reading risen kept = gen_reads gen now reading risen

  module _ (report told : SinkState) (stream : IsStream c.words)
      (ready : IsReady script (chosen_block c.words script)) (now : SourceState)
      (reading : IsReading (command_of c.words) c.port c.later now)
      (bytes : List ℕ) (is_told : input.left ≡ Some bytes)
      (free : IsFree (command_of c.words) script (chosen_block c.words script) bytes)
      (none : NoneFailed c report told) where
    pub stop_blocks : (fault : StreamFault) → Stopped (is_banked c.words) script (chosen_block c.words script) fault
        input now c.sink c.after c.before c.counts → ⊥
    stop_blocks Input stopped = input_kept stream now reading stopped.faults.0 none.input_kept
    stop_blocks Output stopped = none.output_kept (rose _ _ stopped.faults.1)
    stop_blocks (Header fault offset) stopped =
        let (more, left, all) = told_split input.left now.left stopped.given bytes stopped.gave.front is_told in
        let found : input_fault script bytes ≡ Some (fault, offset) = ap (input_fault script) all ∙
        fault_told script stopped.given more now (fault, offset) left stopped.cause in
        some_not_none (input_fault script bytes) (fault, offset) found (whole_input stream bytes is_told free.good).0
    stop_blocks (Lengths fault) stopped =
        let (more, left, all) = told_split input.left now.left stopped.given bytes stopped.gave.front is_told in
        let some = some_frame script (input_header script stopped.given).coding (chosen_block c.words script) ready in
        length_blocks script (chosen_block c.words script) stopped.given more now left some fault stopped.cause
        (subst (InLimit script) all (whole_input stream bytes is_told free.good).1)
        (subst (λ bytes. window_at script.blocks (frames_in_bytes script bytes) ≡ None) all free.no_window)
        (subst (λ bytes. KeepsLimits script (input_header script bytes) (frames_in_bytes script bytes)) all free.limits)
