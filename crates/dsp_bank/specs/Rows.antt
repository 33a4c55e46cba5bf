-- Rows of samples, frame by frame, on which the sections of a bank work: the first two frames are what a section keeps.
use Rattle.std.specs.Prelude.{ℕ, ◌≡◌, ◌≢◌, ◌+◌, ◌*◌, ◌<◌, ◌≤◌, ℤ, List, [], ◌∷◌, take, drop}
use Rattle.dsp_defs.specs.Biquad.{Section}
use Rattle.dsp_defs.specs.Signal.{sample, values}
use Rattle.dsp_defs.specs.Streaming.{Behaviour, GoesOn}
use Rattle.dsp_defs.specs.declared.format.Fmt.{Fmt}
use Rattle.dsp_unit.specs.Channels.{numbers_in, samples_in}
use Rattle.dsp_biquad.specs.Sections.{section_acts, section_of}
use Rattle.dsp_sections.specs.Sections.{cell}

-- ---- rows of samples

-- the samples of a channel in `count` frames after the first two
abbrev pub channel_after : ℕ → ℕ → List ℤ → ℕ → List ℤ
channel_after row count frames channel = values count (λ n. cell row frames (n + 2) channel)

-- what a section keeps of a channel after n frames: its last two samples and its last two outputs, the newest first
abbrev pub past : ℕ → List ℤ → List ℤ → ℕ → ℕ → List ℤ
past row frames outputs n channel =
    cell row frames (n + 1) channel ∷ cell row frames n channel ∷ cell row outputs (n + 1) channel ∷ cell row outputs
    n channel ∷ []

-- the newest number and the one before it stand in the second and the first frame of a channel; nothing else changed
pub record PutsPast (row channel : ℕ) (newest second : ℤ) (old new : List ℤ) : Type 0 where
  pub newest_is : sample new (row + channel) ≡ newest
  pub second_is : sample new channel ≡ second
  pub others : (k : ℕ) → k ≢ row + channel → k ≢ channel → sample new k ≡ sample old k

-- ---- kept numbers: channel after channel, and in a channel section after section

-- the four numbers of a section of a channel
abbrev pub four_at : ℕ → List ℤ → ℕ → ℕ → List ℤ
four_at sections kept channel section = numbers_in 4 kept (channel * sections + section)

-- the first two frames are what a section keeps of each channel, and the frames after them are as before
pub record Loaded (sections section row : ℕ) (kept old frames outputs : List ℤ) : Type 0 where
  pub fours : (i : ℕ) → i < row → four_at sections kept i section ≡ past row frames outputs 0 i
  pub later : (k : ℕ) → 2 * row ≤ k → sample frames k ≡ sample old k

-- the section keeps its last two samples and outputs of each channel, and the other sections keep what they kept
pub record Saved (sections section row count : ℕ) (frames outputs old kept : List ℤ) : Type 0 where
  pub fours : (i : ℕ) → i < row → four_at sections kept i section ≡ past row frames outputs count i
  pub others : (i s : ℕ) → i < row → s < sections → s ≢ section → four_at sections kept i s ≡ four_at sections old i s

-- ---- sections

-- the numbers of the section at a place of a list, and what it does
abbrev pub section_at : ℕ → List ℤ → ℕ → Section
section_at size numbers s = section_of size (take size (drop (s * size) numbers))

abbrev pub acts_at : Fmt → ℕ → ℕ → List ℤ → ℕ → Behaviour
acts_at format p size numbers s = section_acts format p (section_at size numbers s)

-- each channel goes on as the section does, from what it kept of it, and the other sections keep what they kept
pub record SectionGoes (acts : Behaviour) (sections section row count : ℕ) (kept kept' frames frames' : List ℤ) : Type
    0 where
  pub goes : (i : ℕ) → i < row → GoesOn acts.gives acts.keeps (four_at sections kept i section)
      (four_at sections kept' i section)
      (channel_after row count frames i) (channel_after row count frames' i)
  pub others : (i s : ℕ) → i < row → s < sections → s ≢ section → four_at sections kept' i s ≡ four_at sections kept i s

-- each channel goes on as a behaviour does, from as many numbers for each channel
abbrev pub ChannelsGo : Behaviour → ℕ → ℕ → ℕ → List ℤ → List ℤ → List ℤ → List ℤ → Type 0
ChannelsGo acts size row count kept kept' frames frames' =
    (i : ℕ) → i < row → GoesOn acts.gives acts.keeps (numbers_in size kept i) (numbers_in size kept' i)
    (channel_after row count frames i) (channel_after row count frames' i)

-- the same of frames alone
abbrev pub ChannelsTake : Behaviour → ℕ → ℕ → ℕ → List ℤ → List ℤ → List ℤ → List ℤ → Type 0
ChannelsTake acts size row count kept kept' taken given =
    (i : ℕ) → i < row → GoesOn acts.gives acts.keeps (numbers_in size kept i) (numbers_in size kept' i)
    (samples_in row count taken i) (samples_in row count given i)
