use Rattle.std.proofs.Common.{◌≡◌, ◌∙◌, ap, inl, inr, refl, sym, subst, length, arith, true, false, Option}
use Rattle.std.proofs.Common.{Some, None, ◌+◌, ◌<◌, ◌≤◌}
use Rattle.std.specs.Prelude.{is_some}
use Rattle.dsp_unit.specs.Line.{Place, InLine, AllCount, AllTaken, blocks_of, place_behind, place_room}
use Rattle.dsp_defs.specs.Shape.{gathered, held}
use Rattle.dsp_defs.specs.declared.limits.TheConstants.{MAX_GATHERED, MAX_INPUT}
use Rattle.dsp_defs.proofs.FrameLemmas.{length-frames_in}
use Rattle.dsp_shape.proofs.FewFrames.{few-taken}
use Rattle.dsp_unit.proofs.TailLaws.{count-runs, count-took}
use Rattle.dsp_chain.specs.Line.{MayTake, given_by}
use Rattle.dsp_chain.proofs.Room.{written-line}
use Rattle.dsp_chain.proofs.ChainCalls.{whole-again, chain-fed}
use Rattle.dsp_chain.proofs.chain.Chain.feed.Goals as goal

some-none : {A : Type 0} (o : Option A) (a : A) → o ≡ None → o ≡ Some a → ⊥
some-none o a none some = (let e : None ≡ Some a = sym none ∙ some in cc)

same-fault : {A : Type 0} (o : Option A) (a b : A) → o ≡ Some a → o ≡ Some b → a ≡ b
same-fault o a b here there = (let e : Some a ≡ Some b = sym here ∙ there in cc)

-- a chain that has failed answers its fault again
pub returns-in-Some-clause-full : goal.returns-in-Some-clause-full
returns-in-Some-clause-full g c = rw (← c.self.view_is) (λ _. inr (ap is_some c.in-Some.is), λ _. refl)

pub returns-in-Some-clause-numbers : goal.returns-in-Some-clause-numbers
returns-in-Some-clause-numbers g c = rw (← c.self.view_is)
    (λ none. absurd (some-none c.self.inside.failed c.in-Some.fault none c.in-Some.is))

pub returns-in-Some-clause-refused : goal.returns-in-Some-clause-refused
returns-in-Some-clause-refused g c =
    rw (← c.self.view_is) (record {
      same = λ i. record {
        input = record {
          format = c.self.inside.format;
          channels = c.self.inside.channels;
          capacity =
              c.self.inside.capacity;
        };
        units = c.self.inside.links.items;
        frames = c.self.inside.frames;
        ended = c.self.inside.ended;
        failed = c.in-Some.is i;
      };
      again = λ earlier was. same-fault c.self.inside.failed c.in-Some.fault earlier c.in-Some.is was;
      no_steps = refl;
    })

-- and where it fails for the first time, only that it has is new
pub invariant_of-self : goal.invariant_of-self
invariant_of-self g c =
    let is = c.self.invariant.is in
    record { is = whole-again _ _ is refl refl is.line is.took is.counts is.taken; room_is = c.self.invariant.room_is }

pub returns-in-Some-gather_fault-clause-refused : goal.returns-in-Some-gather_fault-clause-refused
returns-in-Some-gather_fault-clause-refused g c =
    rw (← c.self.view_is) (record {
      same = refl;
      again = λ earlier was. absurd (some-none c.self.inside.failed earlier c.in_default.is was);
      no_steps = refl;
    })

pub gather_fault-requires-clause-few : goal.gather_fault-requires-clause-few
gather_fault-requires-clause-few g c =
    let is = c.self.invariant.is in
    let n = c.self.inside.frames + c.frame_count.result in
    let few : n ≤ MAX_INPUT = rw (length-frames_in, ← c.frame_count.ensures)
    at (rw (← c.self.view_is) at c.requires.count) in
    rw c.deref.ensures.value (is.few_frames n few)

pub returns-in-Some-gather_fault-clause-full : goal.returns-in-Some-gather_fault-clause-full
returns-in-Some-gather_fault-clause-full g c =
    let blocks = blocks_of c.self.inside.links.items in
    let n = c.self.inside.frames + c.frame_count.result in
    let same = ap (λ us. gathered (blocks_of us) n) c.deref.ensures.value in
    let over : MAX_GATHERED < gathered blocks n = subst (λ k. MAX_GATHERED < k) same
    c.in-Some-gather_fault.ensures.full in
    rw (← c.self.view_is) (λ _. inl (rw (length-frames_in, ← c.frame_count.ensures) over), λ _. refl)

pub returns-in-Some-gather_fault-clause-numbers : goal.returns-in-Some-gather_fault-clause-numbers
returns-in-Some-gather_fault-clause-numbers g c =
    let n = c.self.inside.frames + c.frame_count.result in
    let links = c.deref.ensures.value in
    rw (← c.self.view_is)
    (λ _. (
      c.in-Some-gather_fault.ensures.held ∙ ap (λ us. held (blocks_of us) c.self.inside.frames) links,
      rw (length-frames_in, ← c.frame_count.ensures)
          (c.in-Some-gather_fault.ensures.more ∙ ap (λ us. gathered (blocks_of us) n) links),
    ))

pub feed_line-requires-clause-running : goal.feed_line-requires-clause-running
feed_line-requires-clause-running g c =
    let running = rw (← c.self.view_is) at c.requires.running in
    rw c.as_mut_slice.ensures.value (count-runs c.self.inside.links.items c.self.inside.frames
    (c.self.invariant.is.counts running))

pub feed_line-requires-clause-passes : goal.feed_line-requires-clause-passes
feed_line-requires-clause-passes g c =
    let is = c.self.invariant.is in
    let links = c.self.inside.links.items in
    let n = c.self.inside.frames + c.frame_count.result in
    let running = rw (← c.self.view_is) at c.requires.running in
    let few : n ≤ MAX_INPUT = rw (length-frames_in, ← c.frame_count.ensures)
    at (rw (← c.self.view_is) at c.requires.count) in
    let same = ap (λ us. gathered (blocks_of us) n) c.deref.ensures.value in
    let fits : gathered (blocks_of links) n ≤ MAX_GATHERED =
    subst (λ k. k ≤ MAX_GATHERED) same c.in_default-gather_fault.ensures.none in
    let taken : AllTaken (blocks_of links) n = few-taken (blocks_of links) n is.one_correlate fits
    (is.few_frames n few) in
    let may : MayTake links c.args.frames.now (length c.args.out.now) = record {
      place = record {
        format = c.self.inside.format;
        channels = c.self.inside.channels;
        capacity =
            c.self.inside.capacity;
      };
      line = is.line;
      passes = rw (← c.self.view_is) at c.requires.passes;
      accepts = (c.self.inside.frames, is.counts running, rw (length-frames_in, ← c.frame_count.ensures) taken);
      room = rw (← c.self.view_is) at c.requires.room;
    } in
    rw c.as_mut_slice.ensures.value may

pub invariant_of-self-2 : goal.invariant_of-self-2
invariant_of-self-2 g c =
    let is = c.self.invariant.is in
    let p : Place = record {
      format = c.self.inside.format;
      channels = c.self.inside.channels;
      capacity =
          c.self.inside.capacity;
    } in
    let links = c.self.inside.links.items in
    let news = c.feed_line.new.links in
    let n = c.self.inside.frames + c.frame_count.result in
    let running = rw (← c.self.view_is) at c.requires.running in
    let few : n ≤ MAX_INPUT = rw (length-frames_in, ← c.frame_count.ensures)
    at (rw (← c.self.view_is) at c.requires.count) in
    let line : InLine p c.as_mut_slice.result.now = subst (InLine p) (sym c.as_mut_slice.ensures.value) is.line in
    let fed = c.feed_line.ensures.fed p line (rw (← c.self.view_is) at c.requires.passes) in
    let whole = written-line c.self.inside.links.len news links
    (omega (arith, c.feed_line.auto.links, c.as_mut_slice.ensures.len)) in
    let blocks : blocks_of news ≡ blocks_of links = fed.feeds.blocks ∙ ap blocks_of c.as_mut_slice.ensures.value in
    let counts : AllCount news n = rw (length-frames_in, ← c.frame_count.ensures) at
    (fed.feeds.counts c.self.inside.frames (subst (λ us. AllCount us c.self.inside.frames)
    (sym c.as_mut_slice.ensures.value) (is.counts running))) in
    let same = ap (λ us. gathered (blocks_of us) n) c.deref.ensures.value in
    let fits : gathered (blocks_of links) n ≤ MAX_GATHERED =
    subst (λ k. k ≤ MAX_GATHERED) same c.in_default-gather_fault.ensures.none in
    let taken : AllTaken (blocks_of links) n = few-taken (blocks_of links) n is.one_correlate fits
    (is.few_frames n few) in
    rw whole (record {
      is = whole-again _ _ is refl blocks fed.feeds.in_line (count-took news n counts) (λ _. counts)
          (subst (λ bs. AllTaken bs n) (sym blocks) taken);
      room_is = c.self.invariant.room_is ∙ ap (λ bs. place_room (place_behind p bs)) (sym blocks);
    })

pub returns-clause-fed : goal.returns-clause-fed
returns-clause-fed g c =
    let is = c.self.invariant.is in
    let p : Place = record {
      format = c.self.inside.format;
      channels = c.self.inside.channels;
      capacity =
          c.self.inside.capacity;
    } in
    let running = rw (← c.self.view_is) at c.requires.running in
    let line : InLine p c.as_mut_slice.result.now = subst (InLine p) (sym c.as_mut_slice.ensures.value) is.line in
    let fed = c.feed_line.ensures.fed p line (rw (← c.self.view_is) at c.requires.passes) in
    let whole = written-line c.self.inside.links.len c.feed_line.new.links c.self.inside.links.items
    (omega (arith, c.feed_line.auto.links, c.as_mut_slice.ensures.len)) in
    rw (← c.self.view_is)
    (chain-fed _ _ c.as_mut_slice.result.now c.feed_line.new.links c.args.frames.now
    (given_by c.feed_line.result c.args.frames.now c.feed_line.new.out) c.args.steps.now c.feed_line.new.steps
    c.as_mut_slice.ensures.value whole refl refl running c.in_default.is
    (ap (λ n. c.self.inside.frames + n) c.frame_count.ensures) is.line (is.counts running) fed)

pub returns-clause-full : goal.returns-clause-full
returns-clause-full g c =
    let blocks = blocks_of c.self.inside.links.items in
    let n = c.self.inside.frames + c.frame_count.result in
    let same = ap (λ us. gathered (blocks_of us) n) c.deref.ensures.value in
    let fits : gathered blocks n ≤ MAX_GATHERED = subst (λ k. k ≤ MAX_GATHERED) same
    c.in_default-gather_fault.ensures.none in
    let works : is_some c.self.inside.failed ≡ false = ap is_some c.in_default.is in
    rw (← c.self.view_is) (
      λ e. absurd (false-true e),
      λ too_much. elim too_much [
        | inl over ↦ absurd (let over' : MAX_GATHERED < gathered blocks n =
            rw (length-frames_in, ← c.frame_count.ensures) at over in
            omega (arith, over', fits))
        | inr some ↦ sym works ∙ some
      ],
    )
  where
    false-true : false ≡ true → ⊥
    false-true e = cc
