-- How the bytes that a conversion took and the bytes that it wrote stand to each other at each of its ends.
use Rattle.std.specs.Prelude.{◌≡◌, ◌⊎◌, ℕ, ◌+◌, ◌-◌, ◌*◌, ◌/◌, ◌<◌, ◌≤◌, nat_lt, if◌then◌else◌, List, ◌++◌}
use Rattle.std.specs.Prelude.{length, take, Option, Some, None, Result, Ok, Err, IfSome, MatchResult}
use Rattle.std.specs.Io.KnownBytes.{IsAtEnd}
use Rattle.dsp_ports.specs.Ports.{append_put}
use Rattle.std.specs.Option.{option_map}
use Rattle.dsp_ports.specs.Ports.{SourceState, SinkState, one_more, Gave, Took, IsSettled, settled_after}
use Rattle.dsp_defs.specs.Au.{FormFits, au_header_of, form_header, open_declared_frames, open_frame_bytes}
use Rattle.dsp_defs.specs.Au.{source_header, source_signal, target, target_form, target_of_signal, target_with}
use Rattle.dsp_defs.specs.Bytes.{width}
use Rattle.dsp_defs.specs.Open.{IsOpenGood, open_header_of}
use Rattle.dsp_defs.specs.Streaming.{Begins}
use Rattle.dsp_defs.specs.Wave.{riff_bytes}
use Rattle.dsp_defs.specs.declared.limits.TheConstants.{MAX_INPUT, MAX_RIFF_SIZE}
use Rattle.dsp_defs.specs.declared.format.Container.TheVariants as container
use Rattle.dsp_defs.specs.declared.wave.OpenHeader.{OpenHeader}
use Rattle.dsp_defs.specs.declared.wave.HeaderFault.TheVariants as wave_fault
use Rattle.dsp_defs.specs.declared.au.AuFault.TheVariants as au_fault
use Rattle.dsp_defs.specs.declared.au.Direction.{Direction}
use Rattle.dsp_defs.specs.declared.au.Direction.TheVariants.{WaveToAu, AuToWave}
use Rattle.dsp_wave.specs.Samples as samples
pub use Rattle.dsp_wave.specs.Samples.{AreAll, InDeclared}
use Rattle.dsp_wave.specs.declared.samples.Stored.{Stored}
use Rattle.dsp_au.specs.declared.conversion.TheConstants.{CONVERT_BLOCK}
use Rattle.dsp_au.specs.declared.conversion.Converted.{Converted}
use Rattle.dsp_au.specs.declared.fault.ConvertFault.{ConvertFault}
use Rattle.dsp_au.specs.declared.fault.ConvertFault.TheVariants as fault

-- ---- the source

-- where the samples stand behind a header
abbrev pub stored : OpenHeader → Stored
stored header = record { start = header.start; size = header.size; frame = open_frame_bytes header }

-- the bytes of the whole frames among so many bytes
abbrev pub in_whole_frames : OpenHeader → ℕ → ℕ
in_whole_frames header size = samples.in_whole_frames (open_frame_bytes header) size

-- the bytes at which a header says that there are whole frames of samples, where it declares its samples
abbrev pub declared_bytes : OpenHeader → Option ℕ
declared_bytes header = samples.declared_bytes (stored header)

-- of so many bytes that were taken all samples are there: those that the header declares, or all to the end of the
-- input
abbrev pub IsTakenWhole : OpenHeader → ℕ → SourceState → Type 0
IsTakenWhole header count now = elim (declared_bytes header)
    [ Some size ↦ count ≡ header.start + size | None ↦ IsAtEnd now.left ]

-- where so many bytes end before all declared whole frames: what is declared, and the bytes behind the header
abbrev pub short_at : OpenHeader → ℕ → Option (ℕ × ℕ)
short_at header count =
    elim header.size [
      | Some declared ↦ if nat_lt count (header.start + in_whole_frames header declared) then
          Some (declared, count - header.start) else None
      | None ↦ None
    ]

-- what is at fault in a source of these bytes, and where: its header, or its end
abbrev pub source_fault : Direction → List ℕ → Option ConvertFault
source_fault WaveToAu bytes =
    elim (open_header_of bytes) [
      | Err said ↦ Some (fault.Wave said.0 said.1)
      | Ok header ↦ option_map (λ short. fault.Wave (wave_fault.Short short.0 short.1) (length bytes))
          (short_at header (length bytes))
    ]
source_fault AuToWave bytes =
    elim (au_header_of bytes) [
      | Err said ↦ Some (fault.Au said.0 said.1)
      | Ok header ↦ option_map (λ short. fault.Au (au_fault.Short short.0 short.1) (length bytes))
          (short_at header (length bytes))
    ]

-- the bytes that were taken have this fault whatever comes behind them, or have it and are all there is
abbrev pub HasFault : Direction → List ℕ → SourceState → ConvertFault → Type 0
HasFault direction given now error =
    ((more : List ℕ) → source_fault direction (given ++ more) ≡ Some error) ⊎
    (IsAtEnd now.left × (source_fault direction given ≡ Some error))

-- the bytes have this good header
abbrev pub IsSource : Direction → List ℕ → OpenHeader → Type 0
IsSource direction bytes header = source_header direction bytes ≡ Some header

-- they have none
abbrev pub IsUnheaded : Direction → List ℕ → Type 0
IsUnheaded direction bytes = source_header direction bytes ≡ None

-- ---- the header of the source was taken

pub record Opened (direction : Direction) (header : OpenHeader) (input now : SourceState) : Type 0 where
  pub first : List ℕ
  pub said : (more : List ℕ) → IsSource direction (first ++ more) header
  pub start : header.start ≡ length first
  pub in_limit : length first ≤ MAX_INPUT
  pub gave : Gave input now first
  pub no_fault : now.faults ≡ input.faults
  pub going : now.ended ≡ input.ended
  pub good : IsOpenGood header

-- a further byte is wanted: the header is cut there and has no other fault, or declared samples are still to come
abbrev pub WantsMore : Direction → List ℕ → Type 0
WantsMore direction given =
    (IsUnheaded direction given × (source_fault direction given ≡ Some
    (fault.Wave wave_fault.NoSamples (length given))))
    ⊎ ((header : OpenHeader) × IsSource direction given header ×
    IfSome (declared_bytes header) (λ size. length given < header.start + size))

-- the cause of an end without a header, where these bytes were taken
abbrev pub IsUnopened : ConvertFault → Direction → List ℕ → SourceState → SourceState → Type 0
IsUnopened fault.Read direction given input now = (now.faults ≡ one_more input.faults) × (length given < MAX_INPUT) ×
    IsUnheaded direction given
IsUnopened (fault.Input taken limit) direction given input now =
    (length given ≡ MAX_INPUT) × (taken ≡ MAX_INPUT) × (limit ≡ MAX_INPUT) × (now.faults ≡ input.faults) ×
    IsUnheaded direction given
    × (source_fault direction given ≡ Some (fault.Wave wave_fault.NoSamples (length given)))
IsUnopened (fault.Wave said offset) direction given input now =
    HasFault direction given now (fault.Wave said offset) × (now.faults ≡ input.faults) × IsUnheaded direction given
IsUnopened (fault.Au said offset) direction given input now =
    HasFault direction given now (fault.Au said offset) × (now.faults ≡ input.faults) × IsUnheaded direction given
IsUnopened error direction given input now = ⊥

pub record Unopened (direction : Direction) (error : ConvertFault) (input now : SourceState) : Type 0 where
  pub given : List ℕ
  pub gave : Gave input now given
  pub in_limit : length given ≤ MAX_INPUT
  pub cause : IsUnopened error direction given input now

-- ---- the header of the target was written

-- the target would be a WAVE file whose size is past the limit of that
pub record IsTooLong (direction : Direction) (header : OpenHeader) (size : ℕ) : Type 0 where
  pub to_wave : direction ≡ AuToWave
  pub frames : ℕ
  pub known : open_declared_frames header ≡ Some frames
  pub size_is : size ≡ riff_bytes container.Wave (width header.coding) header.channels (Some frames)
  pub over : MAX_RIFF_SIZE < size

abbrev pub TooLong : Direction → OpenHeader → ConvertFault → Type 0
TooLong direction header (fault.Riff size limit) = IsTooLong direction header size × (limit ≡ MAX_RIFF_SIZE)
TooLong direction header error = ⊥

pub record Begun (direction : Direction) (header : OpenHeader) (input now : SourceState) (sink after : SinkState) :
    Type 0 where
  pub opened : Opened direction header input now
  pub took : Took sink after (form_header (target_form direction) header)
  pub no_fault : after.faults ≡ sink.faults
  pub fits : FormFits (target_form direction) header

-- ---- block after block

-- the frames of a block, at most so many bytes
abbrev pub block_frames : OpenHeader → ℕ
block_frames header = CONVERT_BLOCK / open_frame_bytes header

-- its bytes
abbrev pub block_bytes : OpenHeader → ℕ
block_bytes header = block_frames header * open_frame_bytes header

-- behind `taken` bytes of samples the front of the block came, and all of it unless the samples have ended
abbrev pub BlockRead : OpenHeader → (taken : ℕ) → List ℕ → ℕ → SourceState → SourceState → Type 0
BlockRead header taken block count input now = samples.BlockRead (stored header) taken block count input now

-- the declared samples end behind `taken` bytes of them: what is at fault
abbrev pub IsShort : Direction → ConvertFault → ℕ → ℕ → ℕ → Type 0
IsShort WaveToAu error declared got offset = error ≡ fault.Wave (wave_fault.Short declared got) offset
IsShort AuToWave error declared got offset = error ≡ fault.Au (au_fault.Short declared got) offset

-- the input ended before the declared whole frames
abbrev pub EndsShort : Direction → ConvertFault → OpenHeader → ℕ → SourceState → SourceState → Type 0
EndsShort direction error header taken input now =
    (declared : ℕ) × (header.size ≡ Some declared) × IsShort direction error declared taken (header.start + taken) ×
    IsAtEnd now.left
    × (now.faults ≡ input.faults) × (taken < in_whole_frames header declared)

-- why it did not come
abbrev pub IsUnread : Direction → ConvertFault → OpenHeader → ℕ → SourceState → SourceState → Type 0
IsUnread direction fault.Read header taken input now = (now.faults ≡ one_more input.faults) ×
    (header.start + taken < MAX_INPUT)
IsUnread direction (fault.Input told most) header taken input now =
    (header.start + taken ≡ MAX_INPUT) × (told ≡ MAX_INPUT) × (most ≡ MAX_INPUT) × (now.faults ≡ input.faults) ×
    IfSome (declared_bytes header) (λ size. taken < size)
IsUnread direction (fault.Wave said offset) header taken input now =
    EndsShort direction (fault.Wave said offset) header taken input now
IsUnread direction (fault.Au said offset) header taken input now =
    EndsShort direction (fault.Au said offset) header taken input now
IsUnread direction error header taken input now = ⊥

-- less than a block came
abbrev pub Unread : Direction → OpenHeader → (taken size : ℕ) → ConvertFault → SourceState → SourceState → Type 0
Unread direction header taken size error input now =
    samples.Unread (stored header) taken size (λ n. IsUnread direction error header n input now) input now

-- the header and the samples of the whole blocks among some bytes
abbrev pub target_blocks : Direction → OpenHeader → List ℕ → List ℕ
target_blocks direction header given =
    let signal = source_signal direction header given in
    target_of_signal direction header (take (length signal / block_frames header * block_frames header) signal)

-- beyond the header and the blocks that were written, at most one block was taken
pub record LagsByOne (direction : Direction) (header : OpenHeader) (given written : List ℕ) : Type 0 where
  pub blocks : ℕ
  pub taken : header.start + blocks * block_bytes header ≤ length given
  pub wrote : (blocks ≡ 0) ⊎ Begins (target_of_signal direction header
      (take (blocks * block_frames header) (source_signal direction header given))) written
  pub one : length given ≤ header.start + (blocks + 1) * block_bytes header

-- all samples came, and were written behind the header
pub record Passed (direction : Direction) (header : OpenHeader) (count : ℕ) (input now : SourceState)
    (sink after : SinkState) : Type 0 where
  pub given : List ℕ
  pub gave : Gave input now given
  pub has : IsSource direction given header
  pub stays : (more : List ℕ) → IsSource direction (given ++ more) header
  pub good : IsOpenGood header
  pub in_limit : length given ≤ MAX_INPUT
  pub room_left : header.size ≡ None → length given < MAX_INPUT
  pub whole : IsTakenWhole header (length given) now
  pub count_is : header.start + count ≡ length given
  pub frames : count / open_frame_bytes header ≡ length (source_signal direction header given)
  pub fits : FormFits (target_form direction) header
  pub took : Took sink after (target_of_signal direction header (source_signal direction header given))
  pub no_input_fault : now.faults ≡ input.faults
  pub no_output_fault : after.faults ≡ sink.faults
  pub lag : LagsByOne direction header given (target_of_signal direction header (source_signal direction header given))

-- the last bytes were accepted and made sure of, or a front of them was accepted
abbrev pub Closed : {T E : Type 0} → Result T E → List ℕ → SinkState → SinkState → Type 0
Closed result bytes sink after =
    MatchResult result (λ _. (after.put ≡ append_put sink.put bytes) × IsSettled after)
    (λ _. (written : List ℕ) × Begins written bytes × (after.put ≡ append_put sink.put written))

-- ---- ends before the end

-- why it stopped, from the bytes that were taken
abbrev pub IsCause : ConvertFault → Direction → List ℕ → SourceState → Type 0
IsCause fault.Read direction given now = length given < MAX_INPUT
IsCause fault.Write direction given now = (header : OpenHeader) × IsSource direction given header
IsCause (fault.Input taken limit) direction given now = (length given ≡ MAX_INPUT) × (taken ≡ MAX_INPUT) ×
    (limit ≡ MAX_INPUT) × WantsMore direction given
IsCause (fault.Riff size limit) direction given now =
    (header : OpenHeader) × ((more : List ℕ) → IsSource direction (given ++ more) header) ×
    (length given ≡ header.start) × IsTooLong direction header size × (limit ≡ MAX_RIFF_SIZE)
IsCause error direction given now = HasFault direction given now error

-- nothing was written since the header of the input isn't there; or exactly the header and the whole blocks were
-- written
pub data WroteBlocks (direction : Direction) (given written : List ℕ) (sink after : SinkState) : Type 0 where
  Nothing : IsUnheaded direction given → after ≡ sink → WroteBlocks direction given written sink after
  Blocks : (header : OpenHeader) → IsSource direction given header → written ≡ target_blocks direction header given →
      WroteBlocks direction given written sink after

-- what was written: less than what is given by the frames that came, or a front of it with the pad byte where all
-- came, where the output has failed;
-- nothing, where it would be too long; and else the whole blocks
abbrev pub HasWritten : ConvertFault → Direction → List ℕ → List ℕ → SourceState → SinkState → SinkState → Type 0
HasWritten fault.Write direction given written now sink after =
    (header : OpenHeader) × IsSource direction given header
    × ((Begins written (target_of_signal direction header (source_signal direction header given))
    × (length written < length (target_of_signal direction header (source_signal direction header given))))
    ⊎ (Begins written (target_with direction header given) × IsTakenWhole header (length given) now))
HasWritten (fault.Riff size limit) direction given written now sink after = after ≡ sink
HasWritten error direction given written now sink after = WroteBlocks direction given written sink after

-- the samples end within the limit
abbrev pub EndsWithin : Option ℕ → ℕ → ℕ → Type 0
EndsWithin (Some size) start count = start + size ≤ MAX_INPUT
EndsWithin None start count = count < MAX_INPUT

-- nothing stands in the way of a conversion of all bytes of an input: no fault is in them, their header and all
-- samples that it
-- declares stand within the limit, and the target fits its sizes
pub record IsFree (direction : Direction) (bytes : List ℕ) : Type 0 where
  pub header : OpenHeader
  pub good : source_fault direction bytes ≡ None
  pub has : IsSource direction bytes header
  pub in_front : IsSource direction (take MAX_INPUT bytes) header
  pub in_limit : EndsWithin (declared_bytes header) header.start (length bytes)
  pub fits : FormFits (target_form direction) header

-- a port has failed
abbrev pub IsPortFault : ConvertFault → Type 0
IsPortFault fault.Read = Unit {0}
IsPortFault fault.Write = Unit {0}
IsPortFault error = ⊥

-- the port that has failed has counted one fault, and no other port has
abbrev pub CountsFault : ConvertFault → SourceState → SourceState → SinkState → SinkState → Type 0
CountsFault fault.Read input now sink after = (now.faults ≡ one_more input.faults) × (after.faults ≡ sink.faults)
CountsFault fault.Write input now sink after = (now.faults ≡ input.faults) × (after.faults ≡ one_more sink.faults)
CountsFault error input now sink after = (now.faults ≡ input.faults) × (after.faults ≡ sink.faults)

-- nobody has flushed the output after its last byte, unless it is what failed
abbrev pub IsUnflushed : ConvertFault → SinkState → SinkState → List ℕ → Type 0
IsUnflushed fault.Write sink after written = Unit {0}
IsUnflushed error sink after written = after.settled ≡ settled_after sink.settled (length written)

-- the conversion stopped before its end; `given` and `written` are all bytes that were taken and that were written
pub record Stopped (direction : Direction) (error : ConvertFault) (input now : SourceState) (sink after : SinkState) :
    Type 0 where
  pub given : List ℕ
  pub written : List ℕ
  pub gave : Gave input now given
  pub in_limit : length given ≤ MAX_INPUT
  pub put : after.put ≡ append_put sink.put written
  pub unflushed : IsUnflushed error sink after written
  pub cause : IsCause error direction given now
  pub wrote : HasWritten error direction given written now sink after
  pub faults : CountsFault error input now sink after
  pub in_declared : (header : OpenHeader) → IsSource direction given header →
      IfSome (declared_bytes header) (λ size. length given ≤ header.start + size)
  pub lag : (header : OpenHeader) → IsSource direction given header → LagsByOne direction header given written
  -- where the input tells its bytes and nothing stands in the way of them, a port has failed
  pub hinders : IfSome input.left (λ bytes. IsFree direction bytes → IsPortFault error)

-- ---- the end

-- all samples were taken, exactly the file in the other form was written, and what was answered is said of it
pub record Done (direction : Direction) (converted : Converted) (input now : SourceState) (sink after : SinkState) :
    Type 0 where
  pub given : List ℕ
  pub header : OpenHeader
  pub gave : Gave input now given
  pub has : IsSource direction given header
  pub in_limit : length given ≤ MAX_INPUT
  pub room_left : header.size ≡ None → length given < MAX_INPUT
  pub whole : IsTakenWhole header (length given) now
  pub fits : FormFits (target_form direction) header
  pub put : after.put ≡ append_put sink.put (target direction given)
  -- where the input tells its bytes, that is the file in the other form of all of them
  pub told : IfSome input.left (λ bytes. target direction bytes ≡ target direction given)
  pub lag : LagsByOne direction header given (target direction given)
  pub settled : IsSettled after
  pub no_input_fault : now.faults ≡ input.faults
  pub no_output_fault : after.faults ≡ sink.faults
  pub frames : converted.frames ≡ length (source_signal direction header given)
  pub channels : converted.channels ≡ header.channels
  pub bits : converted.bits ≡ 8 * width header.coding
