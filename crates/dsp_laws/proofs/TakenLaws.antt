-- What a stream has taken, from what it has read of the source that the call gave it.
use Rattle.std.proofs.Common.{◌≡◌, ℕ, ◌+◌, ◌-◌, ◌/◌, ◌≤◌, List, ◌++◌, length, take, refl, sym, ap, ◌∙◌, subst, arith}
use Rattle.std.proofs.Common.{inl, inr, None, Some, Option, IfSome}
use Rattle.std.proofs.lemmas.List.{take_at}
use Rattle.std.specs.Option.{option_map}
use Rattle.std.specs.Io.KnownBytes.{prepend_known}
use Rattle.dsp_ports.specs.Ports.{SourceState, Gave}
use Rattle.dsp_command.specs.Words.{command_of}
use Rattle.dsp_defs.specs.declared.script.Script.{Script}
use Rattle.dsp_session.specs.Session.{cost_of}
use Rattle.dsp_session.specs.Stream.{frames_in_bytes}
use Rattle.dsp_cli.specs.Call.{Call, Streams}
use Rattle.dsp_cli.specs.Run.{IsGen, IsRun, IsStream, IsReading, read_from}
use Rattle.dsp_cli.specs.Script.{IfScript}
use Rattle.dsp_cli.proofs.Told.{IfSome-map, told_script}
use Rattle.dsp_laws.specs.Taken.{IfTaken, IsReader, TookFrames, bytes_taken, count_taken, least_frame_bytes}
use Rattle.dsp_laws.proofs.InputLemmas.{cost_more, frames_within, raw_frames}

told_front : (left rest : Option (List ℕ)) (given : List ℕ) (count : ℕ) → left ≡ prepend_known given rest →
    count ≡ length given → IfSome (option_map (take count) left) (λ bytes. bytes ≡ given)
told_front None rest given count front is = tt
told_front (Some all) None given count front is = absurd (cc)
told_front (Some all) (Some rest) given count front is =
    let split : all ≡ given ++ rest = cc in
    ap (take count) split ∙ take_at given rest count (sym is)

told_taken : (old new : SourceState) (given : List ℕ) → Gave old new given →
    IfSome (bytes_taken old new) (λ bytes. bytes ≡ given)
told_taken old new given gave = told_front old.left new.left given (new.taken - old.taken) gave.front
    (omega (arith, gave.count))

module _ {c : Call} {script : Script} {Did : ℕ → SourceState → SourceState → Type 0} (streams : Streams script Did c)
  where
    abbrev input : SourceState
    input = read_from (command_of c.words) script.input c.port

    abbrev now : SourceState
    now = streams.now

    -- a run has read the port
    pub reads_port : IsRun c.words → (input ≡ c.port) × (now ≡ c.later)
    reads_port (named, banked, is) = (
      ap (λ command. read_from command script.input c.port) is,
      subst (λ command. IsReading command c.port c.later now) is streams.reading,
    )

    -- a gen has left it alone
    pub leaves_port : IsGen c.words → c.later ≡ c.port
    leaves_port (seed, frames, is) = (subst (λ command. IsReading command c.port c.later now) is streams.reading).0

    pub reader : IsReader (command_of c.words) c.source.left c.port c.later input now
    reader = by streams.stream
      where
        by : IsStream c.words → IsReader (command_of c.words) c.source.left c.port c.later input now
        by (inl (named, banked, is)) = subst (λ command. IsReader command c.source.left c.port c.later
            (read_from command script.input c.port) now) (sym is) (refl, (reads_port (named, banked, is)).1)
        by (inr (seed, frames, is)) =
            subst (λ command. IsReader command c.source.left c.port c.later (read_from command script.input c.port) now)
            (sym is)
            (leaves_port (seed, frames, is), told_script c.source c.read script _ streams.read refl)

    pub for_script : (P : Script → Type 0) → P script → IfScript c.source.left P
    for_script P holds = told_script c.source c.read script P streams.read holds

    pub for_given : {given : List ℕ} (P : List ℕ → Type 0) → Gave input now given → P given →
        IfSome (bytes_taken input now) P
    for_given {given} P gave holds = IfSome-map (bytes_taken input now) (λ bytes. bytes ≡ given) P
        (λ bytes same. subst P (sym same) holds) (told_taken input now given gave)

    pub for_taken : {given : List ℕ} (P : Script → List ℕ → Type 0) → Gave input now given → P script given →
        IfTaken c input now P
    for_taken P gave holds = for_script (λ s. IfSome (bytes_taken input now) (P s)) (for_given (P script) gave holds)

    count_is : {given : List ℕ} → Gave input now given → count_taken input now ≡ length given
    count_is gave = omega (arith, gave.count)

    pub within_most : {given : List ℕ} → Gave input now given →
        c.counts.multiplies ≤ c.before.multiplies + cost_of script (frames_in_bytes script given)
        → c.counts.multiplies ≤ c.before.multiplies + cost_of script (count_taken input now / least_frame_bytes script)
    within_most {given} gave within =
        let more = cost_more script.input.format script.input.channels script.blocks (frames_in_bytes script given)
        (length given / least_frame_bytes script) (frames_within script given) in
        subst (λ n. c.counts.multiplies ≤ c.before.multiplies + cost_of script (n / least_frame_bytes script))
        (sym (count_is gave)) (omega (arith, within, more))

    pub took_frames : {given : List ℕ} {frames : ℕ} → Gave input now given → frames ≡ frames_in_bytes script given →
        TookFrames script frames input now
    took_frames {given} {frames} gave is =
        let same = count_is gave in
        record {
          told = for_given _ gave is;
          most = subst (λ n. frames ≤ n / least_frame_bytes script) (sym same)
              (omega (arith, is, frames_within script given));
          raw = elim (raw_frames script given) [
            | inl wave ↦ inl wave
            | inr raw ↦ inr
                (is ∙ raw ∙ ap (λ n. n / least_frame_bytes script) (sym same))
          ];
        }
