-- A conversion goes on block by block.
use Rattle.std.proofs.Common.{◌≡◌, ℕ, suc, ◌+◌, ◌*◌, ◌/◌, ◌<◌, ◌≤◌, List, [], ◌++◌, length, take, drop, Option, Some}
use Rattle.std.proofs.Common.{None, IfSome, refl, sym, ap, ◌∙◌, subst, arith, append_assoc, append-nil, length-append}
use Rattle.std.proofs.Common.{length-drop, inl, inr}
use Rattle.std.specs.Option.{option_map, unwrap_or}
use Rattle.std.specs.Io.KnownBytes.{IsAtEnd}
use Rattle.dsp_ports.specs.Ports.{append_put}
use Rattle.std.proofs.lemmas.List.{take_at, take-append-drop, length-take-le}
use Rattle.std.proofs.lemmas.Nat.{div-mul-add}
use Rattle.dsp_ports.specs.Ports.{SourceState, SinkState, Gave, Took, one_more}
use Rattle.dsp_ports.proofs.Moved.{Gave-nil, Took-nil, Gave-append, Took-append, append_put-append}
use Rattle.dsp_defs.specs.Block.{Frame}
use Rattle.dsp_defs.specs.Bytes.{width}
use Rattle.dsp_defs.specs.Open.{IsOpenGood}
use Rattle.dsp_defs.specs.Streaming.{Begins}
use Rattle.dsp_defs.specs.Au.{form_coded, form_header, form_samples, open_frame_bytes, source_form, source_signal}
use Rattle.dsp_defs.specs.Au.{target_form, target_of_signal}
use Rattle.dsp_defs.specs.declared.au.Direction.{Direction}
use Rattle.dsp_defs.specs.declared.limits.TheConstants.{MAX_INPUT}
use Rattle.dsp_defs.specs.declared.wave.OpenHeader.{OpenHeader}
use Rattle.dsp_au.specs.Exchange.{exchanged}
use Rattle.dsp_au.specs.Convert.{AreAll, Begun, BlockRead, CountsFault, EndsShort, HasFault, HasWritten, InDeclared}
use Rattle.dsp_au.specs.Convert.{IsCause, IsSource, IsFree, IsUnread, Unread, WroteBlocks, Blocks, LagsByOne, Passed}
use Rattle.dsp_au.specs.Convert.{Stopped, block_bytes, block_frames, declared_bytes, in_whole_frames, target_blocks}
use Rattle.dsp_au.specs.declared.fault.ConvertFault.{ConvertFault}
use Rattle.dsp_au.specs.declared.fault.ConvertFault.TheVariants as fault
use Rattle.dsp_au.proofs.FrameLaws.{coded, coded-append, exchanged-is, frames-whole, length-signal, signal}
use Rattle.dsp_au.proofs.FrameLaws.{signal-append, signal-nil, signal_is, some_frame}
use Rattle.dsp_au.proofs.ShortLaws.{short_fault}
use Rattle.dsp_au.proofs.ToldLaws.{always_fails, hindered, unflushed_by}
use Rattle.dsp_au.proofs.ExchangeLaws.{Small}

-- ---- the blocks so far

pub record Going (direction : Direction) (header : OpenHeader) (taken : ℕ) (input now : SourceState)
    (sink after : SinkState) : Type 0 where
  heard : List ℕ
  pub blocks : ℕ
  blocks_heard : length heard ≡ blocks * block_bytes header
  pub taken_is : taken ≡ length heard
  pub declared : InDeclared (declared_bytes header) taken
  pub in_limit : header.start + taken ≤ MAX_INPUT
  pub gave : Gave input now heard
  going : now.ended ≡ input.ended
  pub took : Took sink after (form_coded (target_form direction) header.coding
      (form_samples (source_form direction) header.coding header.channels heard))
  pub no_input_fault : now.faults ≡ input.faults
  pub no_output_fault : after.faults ≡ sink.faults

module _ (direction : Direction) (header : OpenHeader) (good : IsOpenGood header) where
  nothing_declared : (size : Option ℕ) → InDeclared (option_map (in_whole_frames header) size) 0
  nothing_declared None = tt
  nothing_declared (Some size) = omega arith

  -- at the start no block has passed
  pub starts : (input : SourceState) (sink : SinkState) → header.start ≤ MAX_INPUT →
      Going direction header 0 input input sink sink
  starts input sink limit =
      let nothing : coded direction header good (signal direction header good []) ≡ [] =
      ap (coded direction header good) (signal-nil direction header good) in
      record {
        heard = [];
        blocks = 0;
        blocks_heard = omega arith;
        taken_is = refl;
        declared = nothing_declared header.size;
        in_limit = omega (arith, limit);
        gave = Gave-nil input;
        going = refl;
        took = subst (Took sink sink) (sym nothing) (Took-nil sink);
        no_input_fault = refl;
        no_output_fault = refl;
      }

  frames_of_blocks : (blocks count : ℕ) → count ≡ blocks * block_bytes header →
      count ≡ blocks * block_frames header * open_frame_bytes header
  frames_of_blocks blocks count is = is ∙ flat blocks (block_frames header) (open_frame_bytes header)
    where
      flat : (a b c : ℕ) → a * (b * c) ≡ a * b * c
      flat a b c = omega arith

  module _ (taken : ℕ) (input mid now : SourceState) (sink between after : SinkState)
      (going : Going direction header taken input mid sink between)
      (block : List ℕ) (count n : ℕ) (small : Small block) (size : length block ≡ block_bytes header)
      (read : BlockRead header taken block count mid now)
      (n_is : n ≡ count / open_frame_bytes header) where
    abbrev new : List ℕ
    new = take count block

    -- what the bytes so far are
    all_signal : signal direction header good (going.heard ++ new) ≡ signal direction header good going.heard ++
        signal direction header good new
    all_signal = signal-append direction header good going.heard new (going.blocks * block_frames header)
        (frames_of_blocks going.blocks (length going.heard) going.blocks_heard)

    new_long : length new ≡ count
    new_long = length-take-le count block read.within

    all_long : length (going.heard ++ new) ≡ taken + count
    all_long = omega (arith, length-append going.heard new, new_long, going.taken_is)

    all_gave : Gave input now (going.heard ++ new)
    all_gave = Gave-append input mid now going.heard new going.going going.gave read.gave

    -- what is written of them
    given_is : exchanged (width header.coding) (take (n * open_frame_bytes header) block) ≡ coded direction header
        good (signal direction header good new)
    given_is = exchanged-is direction header good block count n small read.within n_is

    module _ (took : Took between after (exchanged (width header.coding) (take (n * open_frame_bytes header) block)))
        (clean : after.faults ≡ between.faults) where
      all_took : Took sink after (coded direction header good (signal direction header good (going.heard ++ new)))
      all_took =
          let x = signal direction header good going.heard in
          let whole : coded direction header good x ++ exchanged (width header.coding)
          (take (n * open_frame_bytes header) block) ≡ coded direction header good
          (signal direction header good (going.heard ++ new)) =
          ap (λ xs. coded direction header good x ++ xs) given_is
          ∙ sym (coded-append direction header good x (signal direction header good new))
          ∙ ap (coded direction header good) (sym all_signal) in
          subst (Took sink after) whole (Took-append sink between after _ _ going.took took)

      -- one block more
      pub goes_on : length block ≤ count → Going direction header (taken + count) input now sink after
      goes_on full =
          let all : count ≡ block_bytes header = omega (arith, full, read.within, size) in
          record {
            heard = going.heard ++ new;
            blocks = suc going.blocks;
            blocks_heard = omega (
              arith,
              all_long,
              going.taken_is,
              going.blocks_heard,
              all,
              next going.blocks (block_bytes header),
            );
            taken_is = sym all_long;
            declared = read.declared;
            in_limit = omega (arith, read.in_limit);
            gave = all_gave;
            going = read.going full ∙ going.going;
            took = all_took;
            no_input_fault = read.no_fault ∙ going.no_input_fault;
            no_output_fault = clean ∙ going.no_output_fault;
          }
        where
          next : (k b : ℕ) → suc k * b ≡ k * b + b
          next k b = omega arith

-- ---- behind the header of the target

abbrev pub IsTakenAll : Option ℕ → ℕ → ℕ → SourceState → Type 0
IsTakenAll declared start total now = elim declared [ Some size ↦ total ≡ start + size | None ↦ IsAtEnd now.left ]

taken_whole : (declared : Option ℕ) (start count total : ℕ) (now : SourceState) → total ≡ start + count →
    AreAll declared count now
    → IsTakenAll declared start total now
taken_whole (Some size) start count total now is all =
    (let same : total ≡ start + size = is ∙ ap (λ n. start + n) all in same)
taken_whole None start count total now is all = all

in_declared : (declared : Option ℕ) (n m : ℕ) → n ≡ m → InDeclared declared n → InDeclared declared m
in_declared declared n m same within = subst (InDeclared declared) same within

module _ (direction : Direction) (header : OpenHeader) (good : IsOpenGood header) (before input : SourceState)
    (empty sink : SinkState) (begun : Begun direction header before input empty sink) where
  abbrev first : List ℕ
  first = begun.opened.first

  abbrev head : List ℕ
  head = form_header (target_form direction) header

  -- what is written of the whole frames of bytes
  abbrev gives : List ℕ → List ℕ
  gives bytes = coded direction header good (signal direction header good bytes)

  source_is : (bytes : List ℕ) → InDeclared (declared_bytes header) (length bytes) →
      source_signal direction header (first ++ bytes) ≡ signal direction header good bytes
  source_is bytes declared = signal_is direction header good first begun.opened.start bytes declared

  given_long : (bytes : List ℕ) → length (first ++ bytes) ≡ header.start + length bytes
  given_long bytes = omega (arith, length-append first bytes, begun.opened.start)

  -- the header and the blocks so far stand in the output
  stood : (taken : ℕ) (mid : SourceState) (between : SinkState) (going : Going direction header taken input mid sink
      between) → Took empty between (head ++ gives going.heard)
  stood taken mid between going = Took-append empty sink between head (gives going.heard) begun.took going.took

  -- some blocks, and at most one more
  module _ (taken : ℕ) (mid : SourceState) (between : SinkState)
      (going : Going direction header taken input mid sink between) (bytes : List ℕ)
      (declared : InDeclared (declared_bytes header) (taken + length bytes))
      (short : length bytes ≤ block_bytes header) where
    abbrev given : List ℕ
    given = first ++ (going.heard ++ bytes)

    behind_long : length (going.heard ++ bytes) ≡ taken + length bytes
    behind_long = omega (arith, length-append going.heard bytes, going.taken_is)

    total : length given ≡ header.start + (taken + length bytes)
    total = omega (arith, given_long (going.heard ++ bytes), behind_long)

    given_signal : source_signal direction header given ≡ signal direction header good going.heard ++ signal
        direction header good bytes
    given_signal =
        source_is (going.heard ++ bytes) (in_declared (declared_bytes header) _ _ (sym behind_long) declared)
        ∙ signal-append direction header good going.heard bytes (going.blocks * block_frames header)
        (frames_of_blocks direction header good going.blocks (length going.heard) going.blocks_heard)

    heard_frames : length (signal direction header good going.heard) ≡ going.blocks * block_frames header
    heard_frames = frames-whole direction header good going.heard (going.blocks * block_frames header)
        (frames_of_blocks direction header good going.blocks (length going.heard) going.blocks_heard)

    -- the blocks so far
    blocks_are : take (going.blocks * block_frames header) (source_signal direction header given) ≡ signal
        direction header good going.heard
    blocks_are = ap (take (going.blocks * block_frames header)) given_signal ∙
        take_at (signal direction header good going.heard) (signal direction header good bytes)
        (going.blocks * block_frames header) heard_frames

    pub lags : (written : List ℕ) → Begins (head ++ gives going.heard) written →
        LagsByOne direction header given written
    lags written begins =
        record {
          blocks = going.blocks;
          taken = omega (arith, total, going.taken_is, going.blocks_heard);
          wrote = inr (subst (λ (x : List Frame). Begins (target_of_signal direction header x) written)
              (sym blocks_are) begins);
          one = omega (arith, total, going.taken_is, going.blocks_heard, short, next going.blocks (block_bytes header));
        }
      where
        next : (k b : ℕ) → (k + 1) * b ≡ k * b + b
        next k b = omega arith

    gave_given : (now : SourceState) → Gave input now (going.heard ++ bytes) → Gave before now given
    gave_given now gave = Gave-append before input now first (going.heard ++ bytes) begun.opened.going begun.opened.gave
        gave

    same_header : (other : OpenHeader) → IsSource direction given other → header ≡ other
    same_header other is = ap (λ (o : Option OpenHeader). unwrap_or o header)
        (sym (begun.opened.said (going.heard ++ bytes)) ∙ is)

    kept_declared : (other : OpenHeader) → IsSource direction given other →
        IfSome (declared_bytes other) (λ size. length given ≤ other.start + size)
    kept_declared other is =
        subst (λ (h : OpenHeader). IfSome (declared_bytes h) (λ size. length given ≤ h.start + size))
        (same_header other is) (by_size (declared_bytes header) declared)
      where
        by_size : (size : Option ℕ) → InDeclared size (taken + length bytes) →
            IfSome size (λ size. length given ≤ header.start + size)
        by_size None within = tt
        by_size (Some size) within = omega (arith, total, within)

    lags_of : (written : List ℕ) → Begins (head ++ gives going.heard) written → (other : OpenHeader) →
        IsSource direction given other → LagsByOne direction other given written
    lags_of written begins other is =
        subst (λ (h : OpenHeader). LagsByOne direction h given written) (same_header other is) (lags written begins)

    -- where less than a block came, exactly the blocks before it stand in the output
    blocks_stand : length bytes < block_bytes header →
        target_blocks direction header given ≡ head ++ gives going.heard
    blocks_stand less =
        let x = source_signal direction header given in
        let rest : length (signal direction header good bytes) < block_frames header =
        rw (length-signal direction header good bytes) (div_less (length bytes) (block_frames header)
        (open_frame_bytes header) (some_frame header good) less) in
        let all : length x ≡ going.blocks * block_frames header + length (signal direction header good bytes) =
        ap length given_signal ∙ length-append (signal direction header good going.heard)
        (signal direction header good bytes) ∙ ap (λ n. n + length (signal direction header good bytes))
        heard_frames in
        let count : length x / block_frames header ≡ going.blocks = ap (λ n. n / block_frames header) all ∙
        div-mul-add going.blocks (block_frames header) (length (signal direction header good bytes)) rest in
        ap (λ n. target_of_signal direction header (take (n * block_frames header) x)) count
        ∙ ap (target_of_signal direction header) blocks_are
      where
        div_less : (n b f : ℕ) → 0 < f → n < b * f → n / f < b
        div_less n b f some less = grind (arith)

  -- ---- the samples have ended

  module _ (taken : ℕ) (mid now : SourceState) (between after : SinkState)
      (going : Going direction header taken input mid sink between)
      (block : List ℕ) (count n : ℕ) (small : Small block) (size : length block ≡ block_bytes header)
      (read : BlockRead header taken block count mid now)
      (n_is : n ≡ count / open_frame_bytes header) where
    abbrev last : List ℕ
    last = take count block

    last_long : length last ≡ count
    last_long = length-take-le count block read.within

    last_declared : InDeclared (declared_bytes header) (taken + length last)
    last_declared = in_declared (declared_bytes header) _ _ (ap (λ n. taken + n) (sym last_long)) read.declared

    last_short : length last ≤ block_bytes header
    last_short = omega (arith, last_long, read.within, size)

    abbrev taken_bytes : List ℕ
    taken_bytes = first ++ (going.heard ++ last)

    abbrev told : List ℕ
    told = exchanged (width header.coding) (take (n * open_frame_bytes header) block)

    -- all that they give stands behind what the blocks before give
    whole_coded : target_of_signal direction header (source_signal direction header taken_bytes) ≡ head ++
        gives going.heard ++ gives last
    whole_coded =
        ap (target_of_signal direction header) (given_signal taken mid between going last last_declared last_short)
        ∙ ap (λ xs. head ++ xs) (coded-append direction header good (signal direction header good going.heard)
        (signal direction header good last))
        ∙ sym (append_assoc head (gives going.heard) (gives last))

    -- the sink has failed within the block
    pub unwritten : (k : ℕ) → k < length told → Took between after (take k told) →
        after.faults ≡ one_more between.faults → Stopped direction fault.Write before now empty after
    unwritten k less took faulty =
        let part = take k told in
        let written = head ++ gives going.heard ++ part in
        let rest = drop k told in
        let split : part ++ rest ≡ gives last = take-append-drop k told ∙ given_is direction header good taken input
        mid now sink between after going block count n small size read n_is in
        let front : target_of_signal direction header (source_signal direction header taken_bytes) ≡ written ++ rest =
        whole_coded ∙ ap (λ xs. head ++ gives going.heard ++ xs) (sym split)
        ∙ sym (append_assoc (head ++ gives going.heard) part rest) in
        record {
          given = taken_bytes;
          written = written;
          gave = gave_given taken mid between going last last_declared last_short now
              (Gave-append input mid now going.heard last going.going going.gave read.gave);
          in_limit = omega (
            arith,
            total taken mid between going last last_declared last_short,
            last_long,
            read.in_limit,
          );
          unflushed = tt;
          put = took.put ∙ ap (λ known. append_put known part) (stood taken mid between going).put
              ∙ sym (append_put-append empty.put (head ++ gives going.heard) part);
          cause = (header, begun.opened.said (going.heard ++ last));
          wrote = (
            header,
            begun.opened.said (going.heard ++ last),
            inl (
              (rest, front),
              omega (arith, less, ap length front, length-append written rest, length-drop k told),
            ),
          );
          faults = (
            read.no_fault ∙ going.no_input_fault ∙ begun.opened.no_fault,
            faulty ∙
                ap one_more (going.no_output_fault ∙ begun.no_fault),
          );
          in_declared = kept_declared taken mid between going last last_declared last_short;
          lag = lags_of taken mid between going last last_declared last_short written (part, refl);
          hinders = always_fails before.left (IsFree direction) fault.Write tt;
        }

    module _ (took : Took between after told) (clean : after.faults ≡ between.faults) (short : count < length block)
      where
        pub ends : Passed direction header (taken + count) before now empty after
        ends =
            let all : length taken_bytes ≡ header.start + (taken + count) =
            total taken mid between going last last_declared last_short ∙
            ap (λ n. header.start + (taken + n)) last_long in
            let long : length (going.heard ++ last) ≡ taken + length last =
            behind_long taken mid between going last last_declared last_short in
            let is : source_signal direction header taken_bytes ≡ signal direction header good (going.heard ++ last) =
            source_is (going.heard ++ last) (in_declared (declared_bytes header) _ _ (sym long) last_declared) in
            record {
              given = taken_bytes;
              gave = gave_given taken mid between going last last_declared last_short now
                  (Gave-append input mid now going.heard last going.going going.gave read.gave);
              has = begun.opened.said (going.heard ++ last);
              stays = λ more. subst (λ bytes. IsSource direction bytes header)
                  (sym (append_assoc first (going.heard ++ last) more))
                  (begun.opened.said ((going.heard ++ last) ++ more));
              good = good;
              in_limit = omega (arith, all, read.in_limit);
              room_left = λ none. omega (arith, all, read.room_left short none);
              whole = taken_whole (declared_bytes header) header.start (taken + count) (length taken_bytes) now all
                  (read.end short);
              count_is = sym all;
              frames = sym (ap length is ∙ length-signal direction header good (going.heard ++ last)
                  ∙ ap (λ n. n / open_frame_bytes header) (long ∙ ap (λ n. taken + n) last_long));
              fits = begun.fits;
              took = subst (Took empty after) (ap (target_of_signal direction header) (sym is))
                  (Took-append empty sink after head _ begun.took
                  (all_took direction header good taken input mid now sink between after going block count n small size
                  read n_is took clean));
              no_input_fault = read.no_fault ∙ going.no_input_fault ∙ begun.opened.no_fault;
              no_output_fault = clean ∙ going.no_output_fault ∙ begun.no_fault;
              lag = lags taken mid between going last last_declared last_short _ (gives last, whole_coded);
            }

  -- ---- a block did not come

  module _ (taken : ℕ) (mid now : SourceState) (between : SinkState)
      (going : Going direction header taken input mid sink between) (size : ℕ) (size_is : size ≡ block_bytes header)
    where
      module _ (bytes : List ℕ) (gave : Gave mid now bytes) (short : length bytes < size)
          (limit : header.start + taken + length bytes ≤ MAX_INPUT)
          (declared : InDeclared (declared_bytes header) (taken + length bytes)) where
        few : length bytes < block_bytes header
        few = omega (arith, short, size_is)

        less : length bytes ≤ block_bytes header
        less = omega (arith, few)

        abbrev came : List ℕ
        came = first ++ (going.heard ++ bytes)

        came_long : length came ≡ header.start + (taken + length bytes)
        came_long = total taken mid between going bytes declared less

        said : IsSource direction came header
        said = begun.opened.said (going.heard ++ bytes)

        abbrev stands : List ℕ
        stands = head ++ gives going.heard

        stops : (error : ConvertFault) → IsCause error direction came now →
            HasWritten error direction came stands now empty between → CountsFault error before now empty between
            → Stopped direction error before now empty between
        stops error cause wrote faults =
            record {
              given = came;
              written = stands;
              gave = gave_given taken mid between going bytes declared less now
                  (Gave-append input mid now going.heard bytes going.going going.gave gave);
              in_limit = omega (arith, came_long, limit);
              put = (stood taken mid between going).put;
              unflushed = unflushed_by error empty between stands (stood taken mid between going).settled;
              cause = cause;
              wrote = wrote;
              faults = faults;
              in_declared = kept_declared taken mid between going bytes declared less;
              lag = lags_of taken mid between going bytes declared less stands ([], sym (append-nil stands));
              hinders = hindered direction error came before now
                  (gave_given taken mid between going bytes declared less now
                  (Gave-append input mid now going.heard bytes going.going going.gave gave)) cause;
            }

        wrote_blocks : WroteBlocks direction came stands empty between
        wrote_blocks = Blocks header said (sym (blocks_stand taken mid between going bytes declared less few))

        unfailed : between.faults ≡ empty.faults
        unfailed = going.no_output_fault ∙ begun.no_fault

        clean : now.faults ≡ mid.faults → now.faults ≡ before.faults
        clean same = same ∙ going.no_input_fault ∙ begun.opened.no_fault

        has_short : (error : ConvertFault) → EndsShort direction error header (taken + length bytes) mid now →
            HasFault direction came now error × (now.faults ≡ mid.faults)
        has_short error (declares, is, error_is, end, same, cut) = (
          inr (
            end,
            short_fault direction came header said declares (taken + length bytes) error is came_long cut
                error_is,
          ),
          same,
        )

        further : (size : Option ℕ) → IfSome size (λ size. taken + length bytes < size) →
            IfSome size (λ size. length came < header.start + size)
        further None cut = tt
        further (Some size) cut = omega (arith, came_long, cut)

        by_cause : (error : ConvertFault) → IsUnread direction error header (taken + length bytes) mid now →
            Stopped direction error before now empty between
        by_cause fault.Read (faulty, limit) = stops fault.Read (omega (arith, came_long, limit)) wrote_blocks
            (faulty ∙ ap one_more (going.no_input_fault ∙ begun.opened.no_fault), unfailed)
        by_cause (fault.Input told most) (full, told_is, most_is, same, cut) =
            stops (fault.Input told most) (
              omega (arith, came_long, full),
              told_is,
              most_is,
              inr (header, said, further (declared_bytes header) cut),
            ) wrote_blocks (clean same, unfailed)
        by_cause (fault.Wave f offset) ends = let (has, same) = has_short (fault.Wave f offset) ends in
            stops (fault.Wave f offset) has wrote_blocks (clean same, unfailed)
        by_cause (fault.Au f offset) ends = let (has, same) = has_short (fault.Au f offset) ends in
            stops (fault.Au f offset) has wrote_blocks (clean same, unfailed)
        by_cause (fault.Riff size limit) cause = absurd cause
        by_cause fault.Write cause = absurd cause

      pub stops_unread : (error : ConvertFault) → Unread direction header taken size error mid now →
          Stopped direction error before now empty between
      stops_unread error u = by_cause u.bytes u.gave u.short u.in_limit u.declared error u.cause
