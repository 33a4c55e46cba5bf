use Rattle.std.proofs.Common.{◌≡◌, ◌∙◌, sym, ◌+◌, ◌-◌, ◌*◌, ◌<◌, ◌≤◌, ℕ, ap, length, map, set, take_all, length-set}
use Rattle.std.proofs.Common.{arith}
use Rattle.dsp_defs.specs.Streaming.{chained}
use Rattle.dsp_filter.proofs.Chains.{two-more-act, two-more-go, one-more-acts, one-more-goes, two-behind}
use Rattle.dsp_filter.proofs.Chains.{four-more-act, four-more-go, four-behind}
use Rattle.dsp_filter.specs.Waves.{part_of}
use Rattle.dsp_filter.proofs.Waves.{neighbours, neighbours-act}
use Rattle.dsp_filter.proofs.chain.run_chain.Goals as goal

-- the products of a piece more
rise : (n m at price piece a b c : ℕ) → m ≡ n → b ≡ a + n * (at * price) → c ≡ b + m * piece →
    c ≡ a + n * (at * price + piece)
rise n m at price piece a b c e e' e'' = grind arith

two-rise : (n m at price a b c : ℕ) → m ≡ n → b ≡ a + n * (at * price) → c ≡ b + m * (price + price) →
    c ≡ a + n * ((at + 2) * price)
two-rise n m at price a b c e e' e'' =
    let both : at * price + (price + price) ≡ (at + 2) * price = grind arith in
    rise n m at price (price + price) a b c e e' e'' ∙ ap (λ k. a + n * k) both

one-rise : (n m at all price a b c : ℕ) → m ≡ n → at + 1 ≡ all → b ≡ a + n * (at * price) → c ≡ b + m * price →
    c ≡ a + n * (all * price)
one-rise n m at all price a b c e last e' e'' =
    let both : at * price + price ≡ all * price = (let step : at * price + price ≡ (at + 1) * price = omega arith in
    step ∙ ap (λ k. k * price) last) in
    rise n m at price price a b c e e' e'' ∙ ap (λ k. a + n * k) both

four-rise : (n m at price a b c : ℕ) → m ≡ n → b ≡ a + n * (at * price) → c ≡ b + m * (4 * price) →
    c ≡ a + n * ((at + 4) * price)
four-rise n m at price a b c e e' e'' =
    let both : at * price + 4 * price ≡ (at + 4) * price = grind arith in
    rise n m at price (4 * price) a b c e e' e'' ∙ ap (λ k. a + n * k) both

pub fours-preserved : goal.fours-preserved
fours-preserved g c =
    let M = g.M.Machine in
    let number = g.T.Sample.number in
    let olds = c.args.machines.now in
    let news = c.fours.machines in
    let at = c.fours.at in
    let so_far = c.fours.invariant in
    let size = g.met.M.Machine.size in
    let four : 4 ≤ length news - at = c.if-machines-at-ge4.true in
    let inside' : at + 3 < length news = omega (arith, four) in
    let inside : at + 3 < length olds = omega (arith, inside', c.fours.auto.machines) in
    let x = c.index-machines-at in
    let y = c.index-machines-at-in-fours in
    let z = c.index-machines-at-in-fours-2 in
    let w = c.index-machines-at-in-fours-3 in
    let made = c.run_four.new.machines in
    let passes = c.run_four.ensures.passes in
    let part = part_of M.acts M.kept in
    let xs = map number c.args.samples.now in
    let ys = map number c.fours.samples in
    let zs = map number c.run_four.new.samples in
    let front = neighbours (part x.result) (part y.result) (part made.first) (part made.second) ys passes.one
    passes.two (size x.result) passes.first passes.second in
    let back = neighbours (part z.result) (part w.result) (part made.third) (part made.fourth) passes.two passes.three
    zs (size z.result) passes.third passes.fourth in
    let same = neighbours-act (part x.result) (part y.result) (part made.first) (part made.second) ys passes.one
    passes.two passes.first passes.second in
    let same' = neighbours-act (part z.result) (part w.result) (part made.third) (part made.fourth) passes.two
    passes.three zs passes.third passes.fourth in
    record {
      inside = omega (arith, inside);
      acts = four-more-act M.acts M.kept size olds news at inside inside' x.result y.result z.result w.result
          made.first made.second made.third made.fourth x.is y.is z.is w.is so_far.rest so_far.acts same same';
      goes = four-more-go M.acts M.kept size olds news at inside inside' x.result y.result z.result w.result
          made.first made.second made.third made.fourth x.is y.is z.is w.is so_far.rest so_far.acts same
          xs ys passes.two zs so_far.goes front back;
      rest = four-behind M.acts M.kept size olds news at inside inside' x.result y.result z.result w.result made.first
          made.second made.third made.fourth x.is y.is z.is w.is so_far.rest;
      steps = record {
        multiplies_rise = four-rise (length c.args.samples.now) (length c.fours.samples) at M.price _ _ _
            c.fours.auto.samples so_far.steps.multiplies_rise c.run_four.ensures.steps.multiplies_rise;
        turns_rise = four-rise (length c.args.samples.now) (length c.fours.samples) at M.price _ _ _
            c.fours.auto.samples so_far.steps.turns_rise c.run_four.ensures.steps.turns_rise;
      };
    }

pub pairs-preserved : goal.pairs-preserved
pairs-preserved g c =
    let M = g.M.Machine in
    let number = g.T.Sample.number in
    let olds = c.args.machines.now in
    let news = c.pairs.machines in
    let at = c.pairs.at in
    let so_far = c.pairs.invariant in
    let e = c.run_machine.ensures in
    let inside : at + 1 < length olds = omega arith in
    let inside' : at + 1 < length news = omega arith in
    let x = c.index-machines-at-in-pairs in
    let y = c.index-machines-at-in-pairs-2 in
    let pair = c.run_machine.new.machine in
    record {
      inside = omega arith;
      acts = two-more-act M.acts M.kept g.met.M.Machine.size olds news at so_far.rest so_far.acts x.result y.result
          pair.first pair.second x.is y.is inside inside' e.acts;
      goes = two-more-go M.acts M.kept g.met.M.Machine.size olds news at so_far.rest so_far.acts
          (map number c.args.samples.now) (map number c.pairs.samples) (map number c.run_machine.new.samples)
          so_far.goes
          x.result y.result pair.first pair.second x.is y.is inside inside' e.goes;
      rest = two-behind olds news at so_far.rest pair.first pair.second;
      steps = record {
        multiplies_rise = two-rise (length c.args.samples.now) (length c.pairs.samples) at M.price _ _ _
            (c.pairs.auto.samples ∙ c.fours.auto.samples) so_far.steps.multiplies_rise e.steps.multiplies_rise;
        turns_rise = two-rise (length c.args.samples.now) (length c.pairs.samples) at M.price _ _ _
            (c.pairs.auto.samples ∙ c.fours.auto.samples) so_far.steps.turns_rise e.steps.turns_rise;
      };
    }

pub returns-then-at-machines-clause-acts : goal.returns-then-at-machines-clause-acts
returns-then-at-machines-clause-acts g c =
    let M = g.M.Machine in
    let olds = c.args.machines.now in
    let news = c.pairs.machines in
    let at = c.pairs.at in
    let so_far = c.pairs.invariant in
    let x = c.index-machines-at-then-at-machines in
    let p = c.run_machine-then-at-machines.new.machine in
    let all = take_all (at + 1) olds (omega arith) in
    let all' = take_all (at + 1) (set news at p) (omega (arith, length-set news at p)) in
    ap (λ l. chained (map M.acts l)) (sym all')
    ∙ one-more-acts M.acts M.kept g.met.M.Machine.size olds news at so_far.rest so_far.acts x.result p x.is
    (omega arith) (omega arith) c.run_machine-then-at-machines.ensures.acts
    ∙ ap (λ l. chained (map M.acts l)) all

pub returns-then-at-machines-clause-goes : goal.returns-then-at-machines-clause-goes
returns-then-at-machines-clause-goes g c =
    let M = g.M.Machine in
    let number = g.T.Sample.number in
    let olds = c.args.machines.now in
    let news = c.pairs.machines in
    let at = c.pairs.at in
    let so_far = c.pairs.invariant in
    let x = c.index-machines-at-then-at-machines in
    let last = c.run_machine-then-at-machines in
    let p = last.new.machine in
    let all = take_all (at + 1) olds (omega arith) in
    let all' = take_all (at + 1) (set news at p) (omega (arith, length-set news at p)) in
    let goes = one-more-goes M.acts M.kept g.met.M.Machine.size olds news at so_far.rest so_far.acts
    (map number c.args.samples.now) (map number c.pairs.samples) (map number last.new.samples) so_far.goes
    x.result p x.is (omega arith) (omega arith) last.ensures.goes in
    rw (all, all') at goes

pub returns-then-at-machines-clause-steps : goal.returns-then-at-machines-clause-steps
returns-then-at-machines-clause-steps g c =
    let M = g.M.Machine in
    let at = c.pairs.at in
    let so_far = c.pairs.invariant.steps in
    let last = c.run_machine-then-at-machines.ensures.steps in
    let one : at + 1 ≡ length c.args.machines.now = omega arith in
    record {
      multiplies_rise = one-rise (length c.args.samples.now) (length c.pairs.samples) at (length c.args.machines.now)
          M.price _ _ _ (c.pairs.auto.samples ∙ c.fours.auto.samples) one so_far.multiplies_rise last.multiplies_rise;
      turns_rise = one-rise (length c.args.samples.now) (length c.pairs.samples) at (length c.args.machines.now)
          M.price _ _ _ (c.pairs.auto.samples ∙ c.fours.auto.samples) one so_far.turns_rise last.turns_rise;
    }

pub returns-else-at-machines-clause-acts : goal.returns-else-at-machines-clause-acts
returns-else-at-machines-clause-acts g c =
    let all = take_all c.pairs.at c.args.machines.now (omega arith) in
    let all' = take_all c.pairs.at c.pairs.machines (omega arith) in
    rw (all, all') at c.pairs.invariant.acts

pub returns-else-at-machines-clause-goes : goal.returns-else-at-machines-clause-goes
returns-else-at-machines-clause-goes g c =
    let all = take_all c.pairs.at c.args.machines.now (omega arith) in
    let all' = take_all c.pairs.at c.pairs.machines (omega arith) in
    rw (all, all') at c.pairs.invariant.goes

pub returns-else-at-machines-clause-steps : goal.returns-else-at-machines-clause-steps
returns-else-at-machines-clause-steps g c =
    let whole : c.pairs.at ≡ length c.args.machines.now = omega arith in
    rw whole at c.pairs.invariant.steps
