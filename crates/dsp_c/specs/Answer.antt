-- The numbers by which C is answered: the status of a call that did nothing, and what there is to say of it.
use Rattle.std.specs.Prelude.{ℕ, ◌-◌, ◌^◌, min, ℤ, pos}
use Rattle.dsp_defs.specs.declared.script_fault.ScriptKind.{ScriptKind}
use Rattle.dsp_defs.specs.declared.script_fault.ScriptKind.TheVariants as kind
use Rattle.dsp_defs.specs.declared.format.Fmt.{Fmt}
use Rattle.dsp_defs.specs.declared.format.Fmt.TheVariants.{Q7, Q15, Q31}
use Rattle.dsp_host.specs.declared.refusal.OpenFault.{OpenFault}
use Rattle.dsp_host.specs.declared.refusal.OpenFault.TheVariants as fault
use Rattle.dsp_host.specs.declared.refusal.Refusal.{Refusal}
use Rattle.dsp_host.specs.declared.refusal.Refusal.TheVariants as refusal
use Rattle.dsp_c.specs.declared.answer.Answer.{Answer}

-- the bits of a format but the sign
abbrev pub format_number : Fmt → ℕ
format_number Q7 = 7
format_number Q15 = 15
format_number Q31 = 31

-- a count as a field, and one of more bits, or the greatest that there is
abbrev pub field : ℕ → ℤ
field count = pos (min count (2 ^ 63 - 1))

abbrev pub saturated : ℕ → ℕ
saturated count = min count (2 ^ 64 - 1)

-- the number of a kind of a script's fault, and its fields
abbrev pub kind_parts : ScriptKind → ℕ × ℤ × ℤ
kind_parts kind.TooLong = (1, pos 0, pos 0)
kind_parts kind.BadByte = (2, pos 0, pos 0)
kind_parts kind.UnknownWord = (3, pos 0, pos 0)
kind_parts kind.BadNumber = (4, pos 0, pos 0)
kind_parts (kind.OutOfRange low high) = (5, low, high)
kind_parts kind.Missing = (6, pos 0, pos 0)
kind_parts (kind.NoSuchForm format) = (7, pos (format_number format), pos 0)
kind_parts (kind.ChannelsHere got wanted) = (8, pos got, pos wanted)
kind_parts (kind.Length taps factor) = (9, field taps, field factor)
kind_parts (kind.TooMany limit) = (10, field limit, pos 0)
kind_parts kind.BadName = (11, pos 0, pos 0)
kind_parts kind.NameTaken = (12, pos 0, pos 0)

-- an answer of two numbers, and one with what a script's fault has
abbrev pub numbers : ℕ → ℕ → Answer
numbers first second = record {
  given = 0;
  kept = 0;
  first = first;
  second = second;
  low = pos 0;
  high = pos 0;
  kind =
      0;
  unused = 0;
}

abbrev pub fault_parts : ℕ → ℕ × ℤ × ℤ → Answer
fault_parts offset parts = record {
  given = 0;
  kept = 0;
  first = offset;
  second = 0;
  low = parts.1;
  high =
      parts.2;
  kind = parts.0;
  unused = 0;
}

-- a text that gives no session
abbrev pub unopened_status : OpenFault → ℕ
unopened_status (fault.Script first) = 2
unopened_status (fault.BlockLength block divisor) = 3
unopened_status fault.Memory = 10

abbrev pub unopened_answer : OpenFault → Answer
unopened_answer (fault.Script first) = fault_parts first.offset (kind_parts first.kind)
unopened_answer (fault.BlockLength block divisor) = numbers block divisor
unopened_answer fault.Memory = numbers 0 0

-- a call that did nothing
abbrev pub status_of : Refusal → ℕ
status_of (refusal.Open fault) = unopened_status fault
status_of refusal.State = 26
status_of (refusal.Frames frame) = 20
status_of (refusal.Length block) = 21
status_of (refusal.Input limit) = 22
status_of (refusal.Room bytes) = 23
status_of (refusal.KeptRoom count) = 28
status_of (refusal.Gather held more) = 24
status_of (refusal.Full samples) = 31
status_of (refusal.Window end full) = 25

abbrev pub answer_of : Refusal → Answer
answer_of (refusal.Open fault) = unopened_answer fault
answer_of refusal.State = numbers 0 0
answer_of (refusal.Frames frame) = numbers frame 0
answer_of (refusal.Length block) = numbers block 0
answer_of (refusal.Input limit) = numbers limit 0
answer_of (refusal.Room bytes) = numbers (saturated bytes) 0
answer_of (refusal.KeptRoom count) = numbers (saturated count) 0
answer_of (refusal.Gather held more) = numbers held more
answer_of (refusal.Full samples) = numbers samples 0
answer_of (refusal.Window end full) = numbers end full
