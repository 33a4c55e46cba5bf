-- What is taken of an input: its header, its samples, and why it stopped.
use Rattle.std.specs.Prelude.{◌≡◌, ◌≢◌, ◌⊎◌, ℕ, ◌+◌, ◌-◌, ◌*◌, ◌<◌, ◌≤◌, nat_lt, if◌then◌else◌, List, ◌++◌}
use Rattle.std.specs.Prelude.{length, take, Option, Some, None, Ok, Err, IfSome}
use Rattle.std.specs.Io.KnownBytes.{IsAtEnd}
use Rattle.dsp_ports.specs.Ports.{SourceState, one_more, Gave}
use Rattle.dsp_defs.specs.Bytes.{width}
use Rattle.dsp_defs.specs.Output.{HasHeader, input_header, input_signal, wanted_of, known_frames, format_of}
use Rattle.dsp_defs.specs.Output.{channels_of}
use Rattle.dsp_defs.specs.Wave.{header_of, riff_size, HeaderFits}
use Rattle.dsp_defs.specs.declared.format.Coding.{Coding}
use Rattle.dsp_defs.specs.declared.format.Container.TheVariants as container
use Rattle.dsp_defs.specs.declared.format.InputKind.TheVariants as kind
use Rattle.dsp_defs.specs.declared.limits.TheConstants.{MAX_INPUT, MAX_RIFF_SIZE}
use Rattle.dsp_defs.specs.declared.script.Script.{Script}
use Rattle.dsp_defs.specs.declared.wave.Header.{Header}
use Rattle.dsp_defs.specs.declared.wave.HeaderFault.{HeaderFault}
use Rattle.dsp_defs.specs.declared.wave.HeaderFault.TheVariants.{NoSamples, Short}
use Rattle.dsp_wave.specs.Reading.{IsSure}
use Rattle.dsp_wave.specs.Samples as samples
pub use Rattle.dsp_wave.specs.Samples.{AreAll, InDeclared}
use Rattle.dsp_wave.specs.declared.samples.Stored.{Stored}
use Rattle.dsp_input.specs.declared.fault.InputFault.{InputFault}
use Rattle.dsp_input.specs.declared.fault.InputFault.TheVariants as fault

-- ---- frames

-- the bytes of a frame of the input in a coding
abbrev pub frame_bytes : Script → Coding → ℕ
frame_bytes script coding = script.input.channels * width coding

-- where the samples stand behind a header
abbrev pub stored : Script → Header → Stored
stored script header = record { start = header.start; size = header.size; frame = frame_bytes script header.coding }

-- the bytes of the whole frames among so many bytes
abbrev pub in_whole_frames : Script → Coding → ℕ → ℕ
in_whole_frames script coding size = samples.in_whole_frames (frame_bytes script coding) size

-- the bytes at which a header says that there are whole frames of samples, where it declares its samples
abbrev pub declared_bytes : Script → Header → Option ℕ
declared_bytes script header = samples.declared_bytes (stored script header)

-- all samples were taken: those that the header declares, or all to the end of the input
abbrev pub IsTakenWhole : Script → List ℕ → SourceState → Type 0
IsTakenWhole script given now =
    let header = input_header script given in
    elim (declared_bytes script header) [ Some size ↦ length given ≡ header.start + size | None ↦ IsAtEnd now.left ]

-- the whole frames of samples among the bytes
abbrev pub frames_in_bytes : Script → List ℕ → ℕ
frames_in_bytes script given = length (input_signal script given)

-- ---- the header

-- these bytes are all that stands before the samples, and they say the header whatever comes behind them
pub record Opens (script : Script) (header : Header) (first : List ℕ) : Type 0 where
  pub said : (more : List ℕ) → input_header script (first ++ more) ≡ header
  pub has : (more : List ℕ) → HasHeader script (first ++ more)
  pub start : header.start ≡ length first
  pub in_limit : length first ≤ MAX_INPUT

-- exactly these bytes were taken
pub record Opened (script : Script) (header : Header) (input now : SourceState) : Type 0 where
  pub first : List ℕ
  pub opens : Opens script header first
  pub gave : Gave input now first
  pub no_fault : now.faults ≡ input.faults
  pub going : now.ended ≡ input.ended

-- the bytes are the begin of a header and have no fault but that they end
pub record IsUnheaded (script : Script) (given : List ℕ) : Type 0 where
  pub wave : script.input.kind ≡ kind.Wave
  pub cut : header_of given (wanted_of script) ≡ Err (NoSamples, length given)
  pub none : HasHeader script given → ⊥

-- the cause of an end without a header, where these bytes were taken
abbrev pub IsUnopened : InputFault → Script → List ℕ → SourceState → SourceState → Type 0
IsUnopened fault.Failed script given input now = (now.faults ≡ one_more input.faults) × (length given < MAX_INPUT) ×
    (HasHeader script given → ⊥)
IsUnopened (fault.Header fault offset) script given input now =
    (script.input.kind ≡ kind.Wave) × IsSure (λ bytes. header_of bytes (wanted_of script)) now given
    (Err (fault, offset)) × (now.faults ≡ input.faults)
IsUnopened (fault.Limit taken limit) script given input now =
    (length given ≡ MAX_INPUT) × (taken ≡ MAX_INPUT) × (limit ≡ MAX_INPUT) × IsUnheaded script given ×
    (now.faults ≡ input.faults)

pub record Unopened (script : Script) (fault : InputFault) (input now : SourceState) : Type 0 where
  pub given : List ℕ
  pub gave : Gave input now given
  pub in_limit : length given ≤ MAX_INPUT
  pub cause : IsUnopened fault script given input now

-- the output has a header, and where it is to have so many frames its size would be past the limit of that
pub record IsTooLong (script : Script) (count : Option ℕ) (size : ℕ) : Type 0 where
  pub headed : script.output ≢ container.Raw
  pub frames : ℕ
  pub known : count ≡ Some frames
  pub size_is : size ≡ riff_size script.output (format_of script) (channels_of script) (Some frames)
  pub over : MAX_RIFF_SIZE < size

-- the sizes in the output's header are within its limit
abbrev pub Fits : Script → Header → Type 0
Fits script header =
    script.output ≢ container.Raw → HeaderFits script.output (format_of script) (channels_of script)
    (known_frames script header)

-- ---- the samples

-- behind `taken` bytes of samples the front of the block came, and all of it unless the samples have ended, or the
-- part of them that ends at `end`
abbrev pub PartRead : Script → Header → (end taken : ℕ) → List ℕ → ℕ → SourceState → SourceState → Type 0
PartRead script header end taken block count input now =
    samples.PartRead (stored script header) end taken block count input now

-- the same of all samples, which no part ends
abbrev pub BlockRead : Script → Header → (taken : ℕ) → List ℕ → ℕ → SourceState → SourceState → Type 0
BlockRead script header taken block count input now =
    samples.BlockRead (stored script header) taken block count input now

-- why it did not come
abbrev pub IsUnread : InputFault → Script → Header → ℕ → SourceState → SourceState → Type 0
IsUnread fault.Failed script header taken input now =
    (now.faults ≡ one_more input.faults) × (header.start + taken < MAX_INPUT) ×
    IfSome (declared_bytes script header) (λ size. taken < size)
IsUnread (fault.Limit told most) script header taken input now =
    (header.start + taken ≡ MAX_INPUT) × (told ≡ MAX_INPUT) × (most ≡ MAX_INPUT) × (now.faults ≡ input.faults) ×
    IfSome (declared_bytes script header) (λ size. taken < size)
IsUnread (fault.Header fault offset) script header taken input now =
    (declared : ℕ) × (header.size ≡ Some declared) × (fault ≡ Short declared taken) ×
    (offset ≡ header.start + taken) × IsAtEnd now.left × (now.faults ≡ input.faults)
    × (taken < in_whole_frames script header.coding declared)

-- less than a block came
abbrev pub Unread : Script → Header → (taken size : ℕ) → InputFault → SourceState → SourceState → Type 0
Unread script header taken size fault input now =
    samples.Unread (stored script header) taken size (λ n. IsUnread fault script header n input now) input now

-- and the part has more
abbrev pub PartUnread : Script → Header → (end taken size : ℕ) → InputFault → SourceState → SourceState → Type 0
PartUnread script header end taken size fault input now =
    samples.PartUnread (stored script header) end taken size (λ n. IsUnread fault script header n input now) input now

-- these bytes of the part that ends at `end` bytes were taken so far
pub record TakenSoFar (script : Script) (header : Header) (end : ℕ) (bytes : List ℕ) (input now : SourceState) : Type
    0 where
  pub gave : Gave input now bytes
  pub in_part : length bytes ≤ end
  pub declared : InDeclared (declared_bytes script header) (length bytes)
  pub in_limit : header.start + length bytes ≤ MAX_INPUT
  pub no_fault : now.faults ≡ input.faults

-- it was taken piece by piece, to its end or to that of the samples
pub record PartTaken (script : Script) (header : Header) (end : ℕ) (bytes : List ℕ) (input now : SourceState) : Type 0
  where
    pub gave : Gave input now bytes
    pub in_part : length bytes ≤ end
    pub declared : InDeclared (declared_bytes script header) (length bytes)
    pub in_limit : header.start + length bytes ≤ MAX_INPUT
    pub ended : (length bytes ≡ end) ⊎ AreAll (declared_bytes script header) (length bytes) now
    pub room_left : header.size ≡ None → length bytes < end → header.start + length bytes < MAX_INPUT
    pub no_fault : now.faults ≡ input.faults
    pub going : length bytes ≡ end → now.ended ≡ input.ended

-- it was not, and this is why the byte behind those that came did not
pub record PartLost (script : Script) (header : Header) (end : ℕ) (error : InputFault) (input now : SourceState) :
    Type 0 where
  pub bytes : List ℕ
  pub gave : Gave input now bytes
  pub in_part : length bytes < end
  pub declared : InDeclared (declared_bytes script header) (length bytes)
  pub in_limit : header.start + length bytes ≤ MAX_INPUT
  pub between : SourceState
  pub no_fault : between.faults ≡ input.faults
  pub cause : IsUnread error script header (length bytes) between now

-- ---- faults of the input

-- the input ends before all declared whole frames came: what is declared, the bytes behind the header, and all bytes
abbrev pub short_fault : Script → Header → ℕ → Option (HeaderFault × ℕ)
short_fault script header count =
    elim header.size [
      | Some declared ↦ if nat_lt count (header.start + in_whole_frames script header.coding declared)
          then Some (Short declared (count - header.start), count) else None
      | None ↦ None
    ]

-- what is at fault in a WAVE input of these bytes, and where: its header, or its end
abbrev pub wave_fault : Script → List ℕ → Option (HeaderFault × ℕ)
wave_fault script bytes = elim (header_of bytes (wanted_of script))
    [ Err fault ↦ Some fault | Ok header ↦ short_fault script header (length bytes) ]

-- in the input of a script; raw samples have no fault
abbrev pub input_fault : Script → List ℕ → Option (HeaderFault × ℕ)
input_fault script bytes = elim script.input.kind [ kind.Raw rate ↦ None | kind.Wave ↦ wave_fault script bytes ]

-- the bytes that were taken have this fault whatever comes behind them, or have it and are all there is
abbrev pub HasFault : Script → List ℕ → SourceState → HeaderFault × ℕ → Type 0
HasFault script given now fault =
    ((more : List ℕ) → input_fault script (given ++ more) ≡ Some fault) ⊎
    (IsAtEnd now.left × (input_fault script given ≡ Some fault))

-- where the header is there and declares its samples, some are still to come
abbrev pub AwaitsDeclared : Script → List ℕ → Type 0
AwaitsDeclared script given =
    HasHeader script given → IfSome (declared_bytes script (input_header script given))
    (λ size. length given < (input_header script given).start + size)

-- a further byte is wanted: the header is cut there and has no other fault, or declared samples are still to come
pub record WantsMore (script : Script) (given : List ℕ) : Type 0 where
  pub cut : (HasHeader script given → ⊥) → input_fault script given ≡ Some (NoSamples, length given)
  pub declared : AwaitsDeclared script given

-- why the input stopped, from the bytes that were taken of it
abbrev pub IsInputCause : InputFault → Script → List ℕ → SourceState → Type 0
IsInputCause fault.Failed script given now = (length given < MAX_INPUT) × AwaitsDeclared script given
IsInputCause (fault.Limit taken limit) script given now = (length given ≡ MAX_INPUT) × (taken ≡ MAX_INPUT) ×
    (limit ≡ MAX_INPUT) × WantsMore script given
IsInputCause (fault.Header said offset) script given now = HasFault script given now (said, offset)

-- ---- limits

-- no byte was taken behind the samples that the header declares
abbrev pub IsInDeclared : Script → List ℕ → Type 0
IsInDeclared script given =
    let header = input_header script given in
    IfSome (declared_bytes script header) (λ size. length given ≤ header.start + size)

-- the header and the declared samples, or all bytes where none are declared, are no more than may be taken
abbrev pub InLimit : Script → List ℕ → Type 0
InLimit script bytes =
    let header = input_header script bytes in
    elim (declared_bytes script header) [
      | Some size ↦ HasHeader script (take MAX_INPUT bytes) × (header.start + size ≤ MAX_INPUT)
      | None ↦ length bytes < MAX_INPUT
    ]
