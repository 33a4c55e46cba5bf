-- Blocks of samples that a port lends.
use Rattle.std.proofs.Common.{◌≡◌, ◌∙◌, ◌<◌, ℕ, List, arith, length, subst, sym, take}
use Rattle.std.proofs.lemmas.List.{take_all}
use Rattle.dsp_ports.specs.Ports.{SourceState, Gave}
use Rattle.dsp_wave.specs.declared.samples.Stored.{Stored}
use Rattle.dsp_wave.specs.Samples.{HasBlock, PartRead}

-- bytes that came of a block that the samples have are as if it was read
pub block_came : (stored : Stored) (end taken : ℕ) (bytes : List ℕ) (input now : SourceState) →
    HasBlock stored end taken (length bytes) → Gave input now bytes → now.faults ≡ input.faults →
    now.ended ≡ input.ended → PartRead stored end taken bytes (length bytes) input now
block_came stored end taken bytes input now has gave no_fault going = record {
  within = omega arith;
  gave = subst (Gave input now) (sym (take_all (length bytes) bytes (omega arith))) gave;
  declared = has.declared;
  in_limit = has.in_limit;
  in_part = has.in_part;
  room_left = λ short none before. absurd (omega (arith, short));
  ended = λ short. absurd (omega (arith, short));
  no_fault = no_fault;
  going = λ part. going;
}
