use Rattle.std.proofs.Common.{sym, subst, List, w32, ℤ}
use lib.Lanes.{Each1}
use mir.Val.{SFits}
use Rattle.dsp_lanes.proofs.WordViews.{high_words_are}
use Rattle.dsp_lanes.proofs.scales.high_words.Goals as goal

pub returns-clause-words : goal.returns-clause-words
returns-clause-words c = (high_words_are c.args.even c.args.odd c.requires.four_even c.requires.four_odd
    c.requires.fit_even c.requires.fit_odd).0

pub returns-clause-fit : goal.returns-clause-fit
returns-clause-fit c =
    let h = high_words_are c.args.even c.args.odd c.requires.four_even c.requires.four_odd c.requires.fit_even
    c.requires.fit_odd in
    subst (λ (l : List ℤ). Each1 (SFits w32) l) (sym h.0) h.1
