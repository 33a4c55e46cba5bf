-- What a status and its numbers say, as a line of text.
use Rattle.std.specs.Prelude.{◌≡◌, ℕ, ◌-◌, ◌<◌, ◌≤◌, ◌^◌, ◌==◌, cond, min, ℤ, pos, negsuc, List, ◌++◌, codes, length}
use Rattle.std.specs.Prelude.{take, drop}
use Rattle.std.specs.Fmt.{decimal}
use Rattle.dsp_command.specs.Report.{block_length_line, gather_line, memory_line, script_line, window_line}
use Rattle.dsp_defs.specs.declared.format.Fmt.{Fmt}
use Rattle.dsp_defs.specs.declared.format.Fmt.TheVariants.{Q7, Q15, Q31}
use Rattle.dsp_defs.specs.declared.script_fault.ScriptFault.{ScriptFault}
use Rattle.dsp_defs.specs.declared.script_fault.ScriptKind.{ScriptKind}
use Rattle.dsp_defs.specs.declared.script_fault.ScriptKind.TheVariants as kind
use Rattle.dsp_host.specs.declared.refusal.OpenFault.TheVariants as fault
use Rattle.dsp_c.specs.Answer.{unopened_answer}
use Rattle.dsp_c.specs.declared.answer.Answer.{Answer}

-- ---- the fault of a script, from its numbers

-- a field that is a count
abbrev pub count_of : ℤ → ℕ
count_of (pos n) = n
count_of (negsuc n) = 0

abbrev pub format_of : ℕ → Fmt
format_of n = cond (n == 7) Q7 (cond (n == 15) Q15 Q31)

-- a field that counts channels
abbrev pub channels_of : ℤ → ℕ
channels_of field = min (count_of field) 255

abbrev pub kind_of : ℕ → ℤ → ℤ → ScriptKind
kind_of number low high =
    cond (number == 1) kind.TooLong
    (cond (number == 2) kind.BadByte
    (cond (number == 3) kind.UnknownWord
    (cond (number == 4) kind.BadNumber
    (cond (number == 5) (kind.OutOfRange low high)
    (cond (number == 6) kind.Missing
    (cond (number == 7) (kind.NoSuchForm (format_of (count_of low)))
    (cond (number == 8) (kind.ChannelsHere (channels_of low) (channels_of high))
    (cond (number == 9) (kind.Length (count_of low) (count_of high))
    (cond (number == 10) (kind.TooMany (count_of low))
    (cond (number == 11) kind.BadName kind.NameTaken))))))))))

abbrev pub fault_of : Answer → ScriptFault
fault_of answer = record { offset = answer.first; kind = kind_of answer.kind answer.low answer.high }

-- ---- lines

-- a line of the program `dspfx` without its first word, `dspfx: `, and its end
abbrev pub bare : List ℕ → List ℕ
bare line = let end = length line - 1 in let start = min end 7 in take (end - start) (drop start line)

-- a number between two texts
abbrev pub counted : List ℕ → ℕ → List ℕ → List ℕ
counted before number behind = before ++ decimal number ++ behind

abbrev pub text_of : ℕ → Answer → List ℕ
text_of status answer =
    cond (status == 0) (codes "done")
    (cond (status == 2) (bare (script_line (fault_of answer)))
    (cond (status == 3) (bare (block_length_line answer.first answer.second))
    (cond (status == 10) (bare memory_line)
    (cond (status == 20) (counted (codes "the input has no whole frames, of ") answer.first (codes " bytes each"))
    (cond (status == 21) (counted (codes "the input has more than a block of ") answer.first (codes " frames"))
    (cond (status == 22) (counted (codes "the signal would have more than ") answer.first (codes " frames"))
    (cond (status == 23) (counted (codes "the output is too short: it needs ") answer.first (codes " bytes"))
    (cond (status == 24) (bare (gather_line answer.first answer.second))
    (cond (status == 25) (bare (window_line answer.first answer.second))
    (cond (status == 26) (codes "these blocks keep no such numbers after so many frames")
    (cond (status == 27) (codes "a null pointer")
    (cond (status == 28) (counted (codes "too little room for the kept numbers: ") answer.first (codes " are needed"))
    (cond (status == 29) (codes "the output overlaps the input")
    (cond (status == 30) (codes "the signal has ended")
    (cond (status == 31) (counted (codes "too many samples for correlate: ") answer.first (codes " of a channel"))
    (cond (status == 32) (codes "the handle holds no signal") (codes "no status of tozbirem")))))))))))))))))

-- a text at the front of a buffer, which is as it was where there is too little room
abbrev pub Writes : List ℕ → List ℕ → List ℕ → Type 0
Writes text old new = (length old < length text → new ≡ old) ×
    ((length old < length text → ⊥) → new ≡ text ++ drop (length text) old)

-- the fields of a kind are within their types
abbrev pub IsNarrow : ScriptKind → Type 0
IsNarrow (kind.ChannelsHere got wanted) = (got ≤ 255) × (wanted ≤ 255)
IsNarrow (kind.Length taps factor) = (taps < 2 ^ 63) × (factor < 2 ^ 63)
IsNarrow (kind.TooMany limit) = limit < 2 ^ 63
IsNarrow other = Unit {0}

-- the fault that an answer tells is the one that it was made of
abbrev pub NamesTheFault : Type 0
NamesTheFault = (first : ScriptFault) → IsNarrow first.kind → fault_of (unopened_answer (fault.Script first)) ≡ first
