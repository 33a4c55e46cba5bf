-- What the calls of a chain make of bytes.
use Rattle.std.proofs.Common.{◌≡◌, ℕ, ◌+◌, ◌*◌, ◌/◌, ◌^◌, ◌<◌, ◌≤◌, ℤ, Bool, List, [], ◌∷◌, ◌++◌, length, take}
use Rattle.std.proofs.Common.{drop, fold, flat_map, All, FitsSigned, refl, sym, ap, ◌∙◌, subst, arith}
use Rattle.std.proofs.Common.{inl, inr, Option, None, Some}
use Rattle.std.specs.Prelude.{IfSome, is_some, not, true, false, unwrap_or}
use Rattle.dsp_defs.specs.Block.{Frame, format_after, channels_after}
use Rattle.dsp_defs.specs.Bytes.{IsValue, format_in, width, bytes_of, sample_of}
use Rattle.dsp_defs.specs.Counts.{Counts}
use Rattle.dsp_defs.specs.Formats.{word}
use Rattle.dsp_defs.specs.Output.{channels_of, format_of, output_coding}
use Rattle.dsp_unit.specs.Line.{Place, Passes, place_after, place_behind, place_room, blocks_of, chain_products}
use Rattle.dsp_unit.specs.Line.{line_turns}
use Rattle.dsp_defs.specs.Signal.{values}
use Rattle.dsp_unit.specs.Unit.{frames_in}
use Rattle.dsp_defs.specs.declared.limits.TheConstants.{MAX_SAMPLES, MAX_GATHERED, MAX_INPUT}
use Rattle.dsp_defs.specs.declared.format.Coding.{Coding}
use Rattle.std.proofs.lemmas.Nat.{mul-le}
use Rattle.dsp_defs.specs.declared.script.Block.{Block}
use Rattle.dsp_defs.specs.declared.script.Script.{Script}
use Rattle.dsp_defs.proofs.BlockLaws.{length-values}
use Rattle.dsp_unit.proofs.ChainPlaces.{legal_is_open, open_behind}
use Rattle.dsp_defs.proofs.CodingLemmas.{width-some, IsValue-coding_of, IsValue-fits}
use Rattle.dsp_defs.proofs.SampleLaws.{decoded, encoded}
use Rattle.dsp_defs.proofs.AuLaws.{width-few}
use Rattle.std.proofs.lemmas.List.{length-take-le}
use Rattle.std.proofs.lemmas.List.Elements.{All-weaker}
use Rattle.dsp_defs.specs.Shape.{frames_behind, gathered, held, whole_frames}
use Rattle.dsp_defs.specs.declared.fault.GatherFull.{GatherFull}
use Rattle.dsp_chain.specs.Line.{given_by}
use Rattle.dsp_chain.specs.Chain.{ChainState, ChainStandsFor, SameChain, FeedsChain, FailsChain, FinishesChain}
use Rattle.dsp_chain.specs.Chain.{IsNewChain, IsTooMuch as chain_too_much, given_of, live_of, output_of, input_place}
use Rattle.dsp_chain.specs.Chain.{made_of}
use Rattle.dsp_input.specs.Taking.{frame_bytes}
use Rattle.dsp_wave.proofs.CodedSizes.{size_of_coded}
use Rattle.dsp_session.specs.SessionState.{SessionState}
use Rattle.dsp_session.specs.SampleRow.{SampleRow, HasRead}
use Rattle.dsp_session.specs.Working.{IsWorking, row_of}
use Rattle.dsp_session.proofs.OpeningLaws.{frames-whole, some_frame}
use Rattle.dsp_session.specs.Session.{IsReady, Holds, Feeds, Fails, IsTooMuch, Ends, given_bytes, signal, live_values}
use Rattle.dsp_session.specs.Session.{products_of, turns_of}

-- the format behind the blocks
format_behind : (p : Place) (blocks : List Block) → (place_behind p blocks).format ≡ fold format_after p.format blocks
format_behind p [] = refl
format_behind p (block ∷ blocks) = format_behind (place_after p block) blocks

-- the channels behind the blocks
channels_behind : (p : Place) (blocks : List Block) →
    (place_behind p blocks).channels ≡ fold channels_after p.channels blocks
channels_behind p [] = refl
channels_behind p (block ∷ blocks) = channels_behind (place_after p block) blocks

-- rows have room
pub row_room : (n b c w : ℕ) → n ≤ b → n * (c * w) ≤ b * c * w
row_room n b c w h = grind arith

-- the samples that a chain gave, where they stand, and how many they are
pub given_row : (given : Option ℕ) (as_taken : Bool) (count size : ℕ) (taken written : List ℤ) →
    is_some given ≡ not as_taken → size ≡ unwrap_or given count → count ≤ length taken →
    IfSome given (λ n. n ≤ length written) →
    (take size (row_of as_taken taken written) ≡ given_by given (take count taken) written)
    × (length (take size (row_of as_taken taken written)) ≡ size)
given_row None true count size taken written flag is within fits =
    (ap (λ n. take n taken) is, length-take-le size taken (omega (arith, is, within)))
given_row None false count size taken written flag is within fits = absurd (cc)
given_row (Some n) true count size taken written flag is within fits = absurd (cc)
given_row (Some n) false count size taken written flag is within fits =
    (ap (λ n. take n written) is, length-take-le size written (omega (arith, is, fits)))

-- how many bytes they have
pub given_size : (coding : Coding) (count w : ℕ) (xs : List ℤ) → length xs ≡ count → w ≡ width coding →
    count * w ≡ length (flat_map (bytes_of coding) xs)
given_size coding count w xs size is = sym (size_of_coded coding xs ∙ (λ i. size i * sym is i))

-- the bytes of some of the samples that there is room for have room
pub bytes_room : (coding : Coding) (count values bytes room : ℕ) (xs : List ℤ) → length xs ≡ count → count ≤ values →
    values ≡ room → bytes ≡ room * width coding → length (flat_map (bytes_of coding) xs) ≤ bytes
bytes_room coding count values bytes room xs long within values_are bytes_are =
    let size : length (flat_map (bytes_of coding) xs) ≡ count * width coding =
    size_of_coded coding xs ∙ ap (λ n. n * width coding) long in
    let less = mul-le count (width coding) room (width coding) (omega (arith, within, values_are)) (omega arith) in
    omega (arith, size, less, bytes_are)

-- samples without bytes are none
none_written : (ys : List ℤ) (w answer : ℕ) → 0 < w → answer ≡ length ys * w → answer ≡ 0 → ys ≡ []
none_written [] w answer some is zero = refl
none_written (y ∷ ys) w answer some is zero = absurd (some_product (length (y ∷ ys)) w (omega arith) some
    (sym is ∙ zero))
  where
    some_product : (n w : ℕ) → 0 < n → 0 < w → n * w ≡ 0 → ⊥
    some_product n w a b none = grind arith

-- a session with this state of its chain, and these bytes
abbrev with_chain : Script → ℕ → Bool → Coding → ChainState → List ℕ → SessionState
with_chain script block banked coding chain out =
    record { script = script; banked = banked; block = block; coding = coding; chain = chain; out = out }

module _ (script : Script) (block : ℕ) (ready : IsReady script block) where
  -- the samples of the output of a call
  few_samples : place_room (place_behind (input_place script block) script.blocks) ≤ MAX_SAMPLES
  few_samples =
      let fit = ready.sound.1.fit in
      (open_behind (input_place script block) script.blocks
      (legal_is_open (input_place script block) script.blocks fit.chain fit.channels.0 ready.legal)).samples

  -- and their bytes
  pub few_bytes :
      (banked : Bool) (chain : ChainState) → IsNewChain banked (input_place script block) script.blocks chain →
      (coding : Coding) (room w : ℕ) → room ≡ place_room (output_of chain) → w ≡ width coding → room * w < 2 ^ 64
  few_bytes banked chain new coding room w room_is w_is =
      let same : place_room (output_of chain) ≡ place_room (place_behind (input_place script block) script.blocks) =
      (λ i. place_room (place_behind (new.input i) (new.blocks_are i))) in
      let bytes = mul-le room w MAX_SAMPLES 4 (omega (arith, room_is, same, few_samples))
      (omega (arith, w_is, width-few coding)) in
      omega (arith, bytes)

  -- ---- the samples of bytes

  module _ (coding : Coding) (bytes : List ℕ) (xs : List ℤ)
      (whole : length bytes ≡ length (signal script coding bytes) * frame_bytes script coding)
      (read : xs ≡ values (length bytes / width coding) (λ i. sample_of coding
      (take (width coding) (drop (i * width coding) bytes)))) where
    abbrev n : ℕ
    n = length (signal script coding bytes)

    abbrev c : ℕ
    c = script.input.channels

    abbrev w : ℕ
    w = width coding

    bytes_are : length bytes ≡ n * c * w
    bytes_are = whole ∙ grind arith

    count : length bytes / w ≡ n * c
    count = quotient (length bytes) (n * c) w (width-some coding) bytes_are
      where
        quotient : (a m w : ℕ) → 0 < w → a ≡ m * w → a / w ≡ m
        quotient a m w some e = grind arith

    pub frames_are : frames_in c xs ≡ signal script coding bytes
    frames_are = ap (frames_in c) read ∙ decoded coding c n (length bytes / w) bytes ready.sound.1.fit.channels.0
        (bytes_are ∙ ap (λ m. m * w) (sym count)) count

    pub passes : All (FitsSigned (word script.input.format)) xs → n ≤ block → Passes (input_place script block) xs
    passes fits few = record {
      signal = record {
        whole_frames = ap length read ∙ length-values (length bytes / w) _ ∙ count ∙
            ap (λ m. m * c) (sym (ap length frames_are));
        in_format = fits;
      };
      at_most = rw frames_are few;
    }

  -- bytes of whole frames whose samples stand in a row
  pub record IsBlock (coding : Coding) (made : ℕ) (bytes : List ℕ) (xs : List ℤ) : Type 0 where
    pub whole : length bytes ≡ length (signal script coding bytes) * frame_bytes script coding
    pub read : xs ≡ values (length bytes / width coding) (λ i. sample_of coding
        (take (width coding) (drop (i * width coding) bytes)))
    pub fits : All (IsValue coding) xs
    pub few : length (signal script coding bytes) ≤ block
    pub in_limit : made + length (signal script coding bytes) ≤ MAX_INPUT

  -- those that a source has lent
  pub lent_block : (old new : SampleRow) (bytes : List ℕ) (size frames made count : ℕ) (now : Coding) (xs : List ℤ) →
      size ≡ frames * frame_bytes script old.coding → frames ≤ block → made + frames ≤ MAX_INPUT →
      length bytes ≡ size → HasRead old bytes new → now ≡ new.coding → count ≡ size / width now →
      xs ≡ take count new.row → IsBlock old.coding made bytes xs
  lent_block old new bytes size frames made count now xs whole few in_limit long read now_is count_is xs_are =
      let n : length (signal script old.coding bytes) ≡ frames = frames-whole script old.coding
      (some_frame script old.coding block ready) bytes frames (long ∙ whole) in
      let same : count ≡ length bytes / width old.coding = count_is ∙
      (λ i. sym long i / width ((now_is ∙ read.coding) i)) in
      let row = xs_are ∙ ap (λ k. take k new.row) same in
      record {
        whole = long ∙ whole ∙ ap (λ m. m * frame_bytes script old.coding) (sym n);
        read = row ∙ read.samples;
        fits = subst (All (IsValue old.coding)) (sym row) read.fits;
        few = omega (arith, n, few);
        in_limit = omega (arith, n, in_limit);
      }

  -- the bytes of samples that stand in a row
  pub given_bytes_are : (coding : Coding) (xs ys : List ℤ) → coding ≡ output_coding script → xs ≡ ys →
      flat_map (bytes_of coding) xs ≡ flat_map (bytes_of (output_coding script)) ys
  given_bytes_are coding xs ys is same = λ i. flat_map (bytes_of (is i)) (same i)

  -- what the chain gives are values of the output's coding
  pub gives_values : (coding : Coding) (ys : List ℤ) → coding ≡ output_coding script →
      All (FitsSigned (word (format_of script))) ys → All (IsValue coding) ys
  gives_values coding ys is fits =
      subst (λ (c : Coding). All (IsValue c) ys) (sym is)
      (All-weaker (FitsSigned (word (format_of script))) (IsValue (output_coding script))
      (IsValue-coding_of script.output (format_of script)) ys fits)

  -- what was read are samples of the coding's format
  pub read_values : (coding : Coding) (xs : List ℤ) → All (IsValue coding) xs →
      All (FitsSigned (word (format_in coding))) xs
  read_values coding xs values = All-weaker (IsValue coding) (FitsSigned (word (format_in coding)))
      (IsValue-fits coding) xs values

  -- ---- calls of the chain

  module _ (old new : ChainState) (input : old.input ≡ input_place script block)
      (blocks : blocks_of old.units ≡ script.blocks) where
    -- the format of what it gives
    pub gives_format : (output_of old).format ≡ format_of script
    gives_format = ap (λ (p : Place). (place_behind p (blocks_of old.units)).format) input ∙
        ap (λ bs. (place_behind (input_place script block) bs).format) blocks ∙
        format_behind (input_place script block) script.blocks

    -- and its channels
    gives_channels : (output_of old).channels ≡ channels_of script
    gives_channels = ap (λ (p : Place). (place_behind p (blocks_of old.units)).channels) input ∙
        ap (λ bs. (place_behind (input_place script block) bs).channels) blocks ∙
        channels_behind (input_place script block) script.blocks

    -- the bytes of frames that it gives
    size_is : (ys : List ℤ) (out : List ℕ) → out ≡ flat_map (bytes_of (output_coding script)) ys →
        length ys ≡ length (frames_in (output_of old).channels ys) * (output_of old).channels
        → length out ≡ length (frames_in (output_of old).channels ys) * given_bytes script
    size_is ys out given whole =
        ap length given ∙ size_of_coded (output_coding script) ys ∙ ap (λ n. n * width (output_coding script)) whole
        ∙ group (length (frames_in (output_of old).channels ys)) (output_of old).channels (width (output_coding script))
        ∙ ap (λ c. length (frames_in (output_of old).channels ys) * (c * width (output_coding script))) gives_channels
      where
        group : (n c w : ℕ) → n * c * w ≡ n * (c * w)
        group n c w = grind arith

    live_is : (x : List Frame) → live_of old x ≡ live_values script x
    live_is x = rw (input, blocks) refl

    module _ (banked : Bool) (turns : (m n : ℕ) → line_turns old.units m n ≡ turns_of banked script m n)
        (coding : Coding) (earlier out : List ℕ) where
      abbrev first : SessionState
      first = with_chain script block banked coding old earlier

      abbrev next : SessionState
      next = with_chain script block banked coding new out

      -- its chain is still that of the script
      holds_again : SameChain old new → Holds next
      holds_again same = record {
        ready = ready;
        input = same.input ∙ input;
        blocks = same.blocks ∙ blocks;
        turns =
            λ m n. same.turns m n ∙ turns m n;
      }

      module _ (xs ys : List ℤ) (bytes : List ℕ) (same : frames_in script.input.channels xs ≡ signal script coding
          bytes) (given : out ≡ flat_map (bytes_of (output_coding script)) ys)
          (before after : Counts) (fed : FeedsChain old new xs ys before after) where
        taken : frames_in old.input.channels xs ≡ signal script coding bytes
        taken = ap (λ (p : Place). frames_in p.channels xs) input ∙ same

        abbrev live : List Frame
        live = frames_in (output_of old).channels ys

        more_live : (x : List Frame) → ChainStandsFor old x →
            live_values script (x ++ signal script coding bytes) ≡ live_values script x ++ live
        more_live x stands = sym (live_is (x ++ signal script coding bytes)) ∙
            ap (λ z. live_of old (x ++ z)) (sym taken) ∙ fed.values x stands ∙ ap (λ z. z ++ live) (live_is x)

        pub feeds : Feeds first next bytes before after
        feeds = record {
          holds = holds_again fed.same;
          running = fed.running;
          works = fed.works;
          counted = fed.counted ∙ ap (λ (z : List Frame). old.frames + length z) taken;
          given = live;
          frames = record {
            out = given ∙ encoded (output_coding script) (output_of old).channels ys
                fed.passes.signal.whole_frames;
            long = size_is ys out given fed.passes.signal.whole_frames;
            gives =
                fed.gives;
          };
          values = λ x stands. more_live x stands.chain;
          stands = λ x stands. record {
            holds = holds_again fed.same;
            chain =
                subst (λ z. ChainStandsFor new (x ++ z)) taken (fed.stands x stands.chain);
            live = fed.live;
          };
          multiplies = fed.multiplies;
          turns = subst (λ n. after.turns ≤ before.turns + n) (turns old.frames new.frames) fed.turns;
          live = fed.live;
        }

      module _ (ys : List ℤ) (given : out ≡ flat_map (bytes_of (output_coding script)) ys) (answer w : ℕ)
          (some : 0 < w) (answer_is : answer ≡ length ys * w)
          (before after : Counts) (finished : FinishesChain old new ys before after) where
        abbrev piece : List Frame
        piece = frames_in (output_of old).channels ys

        products_are : (n : ℕ) → chain_products new.input.format new.input.channels (blocks_of new.units) n ≡
            products_of script n
        products_are n = rw (finished.same.input, finished.same.blocks, input, blocks) refl

        no_answer : ys ≡ [] → answer ≡ 0
        no_answer none = answer_is ∙ ap (λ (zs : List ℤ). length zs * w) none ∙ omega arith

        pub ends : Ends first next answer before after
        ends = record {
          holds = holds_again finished.same;
          ended = finished.ended;
          failed = finished.failed;
          counted = finished.counted;
          given = piece;
          frames = record {
            out = given ∙ encoded (output_coding script) (output_of old).channels ys
                finished.passes.signal.whole_frames;
            long = size_is ys out given finished.passes.signal.whole_frames;
            gives = finished.gives;
          };
          gave = λ x ys gave. record { holds = holds_again finished.same; chain = finished.gave x ys gave.chain };
          multiplies = finished.multiplies;
          turns = finished.turns;
          few = subst (λ bs. given_of new ≤ frames_behind whole_frames bs new.frames) (finished.same.blocks ∙ blocks)
              finished.few;
          within = subst (λ n. made_of new ≤ n) (products_are new.frames) finished.within;
          spent = λ zero works. finished.spent (none_written ys w answer some answer_is zero) works;
          refused = λ failed. (let (nothing, units, steps) = finished.refused failed in
              (no_answer nothing, units, steps));
        }

    -- a call that is refused leaves all but the fault
    pub fails : (banked : Bool) (coding : Coding) (earlier : List ℕ) (fault : GatherFull) (before after : Counts) →
        FailsChain old new fault before after → Fails (with_chain script block banked coding old earlier)
        (with_chain script block banked coding new []) fault before after
    fails banked coding earlier fault before after failed = record {
      same = λ i. with_chain script block banked coding (failed.same i) [];
      again = failed.again;
      no_steps = failed.no_steps;
    }

    -- where it is refused
    pub too_much : (banked : Bool) (coding : Coding) (earlier : List ℕ) (n m : ℕ) → n ≡ m → chain_too_much old n →
        IsTooMuch (with_chain script block banked coding old earlier) m
    too_much banked coding earlier n m same (inl many) =
        inl (subst (λ k. MAX_GATHERED < k) (λ i. gathered (blocks i) (old.frames + same i)) many)
    too_much banked coding earlier n m same (inr failed) = inr failed

    pub chain_much : (banked : Bool) (coding : Coding) (earlier : List ℕ) (n m : ℕ) → n ≡ m →
        IsTooMuch (with_chain script block banked coding old earlier) m → chain_too_much old n
    chain_much banked coding earlier n m same (inl many) =
        inl (subst (λ k. MAX_GATHERED < k) (sym (λ i. gathered (blocks i) (old.frames + same i))) many)
    chain_much banked coding earlier n m same (inr failed) = inr failed

    pub numbers : (fault : GatherFull) (n m : ℕ) → n ≡ m → (fault.held ≡ held (blocks_of old.units) old.frames) ×
        (fault.held + fault.more ≡ gathered (blocks_of old.units) (old.frames + n))
        → (fault.held ≡ held script.blocks old.frames) × (fault.held + fault.more ≡ gathered script.blocks
        (old.frames + m))
    numbers fault n m same (held_is, sum) = (
      held_is ∙ ap (λ bs. held bs old.frames) blocks,
      sum ∙
          (λ i. gathered (blocks i) (old.frames + same i)),
    )

-- what holds of a worker holds of it with another state of its chain, and other samples that were given
pub still_works :
    (s : SessionState) (chain : ChainState) (out : List ℕ) (coding : Coding)
    (samples_room values_room bytes_room given later : ℕ) (ys zs : List ℤ) →
    IsWorking s coding samples_room values_room bytes_room given ys → SameChain s.chain chain → later ≤ values_room →
    length zs ≡ later → All (IsValue coding) zs →
    IsWorking (with_chain s.script s.block s.banked s.coding chain out) coding samples_room values_room bytes_room later
    zs
still_works s chain out coding samples_room values_room bytes_room given later ys zs is same within long fit = record {
  holds = record {
    ready = is.holds.ready;
    input = same.input ∙ is.holds.input;
    blocks = same.blocks ∙ is.holds.blocks;
    turns = λ m n. same.turns m n ∙ is.holds.turns m n;
  };
  input = is.input;
  output = is.output;
  samples = is.samples;
  values = is.values ∙ room;
  bytes = is.bytes ∙ ap (λ r. r * width coding) room;
  within = within;
  long = long;
  given_fit = fit;
}
  where
    room : place_room (output_of s.chain) ≡ place_room (output_of chain)
    room = (λ i. place_room (place_behind (sym same.input i) (sym same.blocks i)))
