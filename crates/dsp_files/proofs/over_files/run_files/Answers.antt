use Rattle.std.proofs.Common.{◌≡◌, ℕ, List, sym, ap, ap₂, refl}
use Rattle.dsp_defs.specs.Counts.{Counts}
use Rattle.dsp_ports.specs.Ports.{SourceState, SinkState}
use Rattle.dsp_cli.specs.Call.{Ended, call}
use Rattle.dsp_files.specs.Files.{input_state, output_state}
use Rattle.dsp_files.specs.OverFiles.{Answers, PortStates, RanOver, no_counts}
use Rattle.dsp_files.proofs.over_files.run_files.Goals as goal

-- a call over these ports
over : (words : List (List ℕ)) (old new : PortStates) (status ended : ℕ) (before counts : Counts)
    (report told : SinkState)
    (source read port later other seen : SourceState) (sink after : SinkState)
    → Ended (call words source read port later sink after other seen before counts) ended report told
    → source ≡ input_state old.script → read ≡ input_state new.script → port ≡ input_state old.input →
    later ≡ input_state new.input
    → sink ≡ output_state old.output → after ≡ output_state new.output → other ≡ input_state old.other →
    seen ≡ input_state new.other
    → report ≡ old.report → before ≡ no_counts → Answers ended status → RanOver words old new status
over words old new status ended before counts report told source read port later other seen sink after run e1 e2 e3 e4
    e5 e6 e7 e8 e9 e10 answers =
    record {
      ended = ended;
      counts = counts;
      told = told;
      run = rw (e1, e2, e3, e4, e5, e6, e7, e8, e9, e10) at run;
      answers = answers;
    }

new_counts : (a : Counts) → a.multiplies ≡ 0 → a.turns ≡ 0 → a ≡ no_counts
new_counts a none never = ap₂ {C = Counts} (λ (m t : ℕ). record { multiplies = m; turns = t }) none never

pub returns : goal.returns
returns g c =
    let same = c.ports.view_is in
    over _ _ _ _ _ _ _ _ _ _ _ _ _ _ _ _ _ c.run-status.ensures.ended
    (ap (λ (p : PortStates). input_state p.script) same) refl (ap (λ (p : PortStates). input_state p.input) same) refl
    (ap (λ (p : PortStates). output_state p.output) same) (ap output_state (sym c.conclude.ensures.output))
    (ap (λ (p : PortStates). input_state p.other) same) refl
    (ap (λ (p : PortStates). p.report) same) (new_counts _ c.new-steps.ensures.multiplies c.new-steps.ensures.turns)
    c.conclude.ensures.answers
