use Rattle.std.proofs.Common.{◌≡◌, ◌≤◌, ◌∙◌, ap, refl, sym, subst, false, Bool, ℕ, ◌+◌, ◌*◌, ◌/◌, length, take}
use Rattle.std.proofs.Common.{length-take-le}
use Rattle.std.proofs.lemmas.List.{take-take}
use Rattle.dsp_defs.proofs.FrameLemmas.{length-frames_in}
use Rattle.dsp_lanes.specs.Turns.{lane_turns}
use Rattle.dsp_unit.specs.Channels.{AreFed}
use Rattle.dsp_unit.specs.Unit.{Feeds, frames_in}
use Rattle.dsp_bank.specs.Bank.{BankState, bank_filters, sections_of, unit_of_bank}
use Rattle.dsp_bank.proofs.Amounts.{as-many, at-most, has-room}
use Rattle.dsp_bank.proofs.BankUnits.{bank-feeds, bank-output, whole-kept}
use Rattle.dsp_bank.proofs.bank_unit.BankUnitUnit.feed.Goals as goal

pub returns-clause-output : goal.returns-clause-output
returns-clause-output g c =
    let b = c.self.inside.bank in
    let frames = c.args.frames.now in
    let out = c.feed_bank.new.out in
    let signal = rw (← c.self.view_is) at c.requires.signal in
    let few = rw (← c.self.view_is) at c.requires.capacity in
    let room = rw (← c.self.view_is) at c.requires.room in
    let room' : b.capacity * b.channels ≤ length c.args.out.now = room in
    let most = at-most b.channels b.capacity (length frames) (length (frames_in b.channels frames))
    signal.whole_frames few in
    let size = length-take-le (length frames) out (subst (λ n. length frames ≤ n) (sym c.feed_bank.auto.out)
    (has-room (length frames) (b.capacity * b.channels) (length c.args.out.now) most room')) in
    rw (← c.self.view_is)
    (bank-output g.T.Sample.format b c.self.inside.ended frames (take (length frames) out) signal.whole_frames few size
    c.feed_bank.ensures.in_format)

pub returns-clause-fed : goal.returns-clause-fed
returns-clause-fed g c =
    let format = g.T.Sample.format in
    let b = c.self.inside.bank in
    let b' = c.feed_bank.new.bank in
    let frames = c.args.frames.now in
    let n = length frames in
    let out = take n c.feed_bank.new.out in
    let before = c.args.steps.now in
    let after = c.feed_bank.new.steps in
    let signal = rw (← c.self.view_is) at c.requires.signal in
    let few = rw (← c.self.view_is) at c.requires.capacity in
    let room = rw (← c.self.view_is) at c.requires.room in
    let running = rw (← c.self.view_is) at c.requires.running in
    let room' : b.capacity * b.channels ≤ length c.args.out.now = room in
    let most = at-most b.channels b.capacity n (length (frames_in b.channels frames)) signal.whole_frames few in
    let size : length out ≡ n = length-take-le n c.feed_bank.new.out (subst (λ k. n ≤ k) (sym c.feed_bank.auto.out)
    (has-room n (b.capacity * b.channels) (length c.args.out.now) most room')) in
    let is = c.self.invariant.0 in
    let is' = whole-kept format b b'.kept is c.feed_bank.ensures.size in
    let made = c.feed_bank.ensures.made in
    let whole : n ≡ n / b.channels * b.channels = signal.whole_frames ∙ ap (λ k. k * b.channels)
    (length-frames_in b.channels frames) in
    let fed = subst (λ (s : BankState). AreFed (bank_filters format false b) (bank_filters format false s)
    (n / b.channels) frames (n / b.channels) out before after) made c.feed_bank.ensures.fed in
    let turns = subst (λ (k : ℕ). after.turns ≤ before.turns + 5 * sections_of format b * (n / b.channels)
    * lane_turns k b.channels) g.met.T.FormatLanes.own c.feed_bank.ensures.turns in
    let feeds = bank-feeds format b b'.kept frames out before after is is' (as-many (length out) n size) whole fed
    turns in
    let feeds' = subst (λ l. Feeds (unit_of_bank format false b) (unit_of_bank format false
    (record b { kept = b'.kept })) (frames_in b.channels frames) (frames_in b.channels l) before after)
    (take-take n n c.feed_bank.new.out (as-many n n refl)) feeds in
    rw (← c.self.view_is)
    (subst (λ (e : Bool). Feeds (unit_of_bank format e b) (unit_of_bank format e b') (frames_in b.channels frames)
    (frames_in b.channels out) before after) (sym running)
    (subst (λ (s : BankState). Feeds (unit_of_bank format false b) (unit_of_bank format false s)
    (frames_in b.channels frames) (frames_in b.channels out) before after) (sym made) feeds'))
