use Rattle.std.proofs.Common.{rules, arith}
use Rattle.std.proofs.lemmas.Int.{to_z-of_z}
use Rattle.std.proofs.lemmas.Grind.{common_steps}
use Rattle.dsp_channelwise.proofs.SectionLists.{six, five}
use Rattle.dsp_channelwise.proofs.cascade.first_section.Goals as goal

pub returns-in-len6-up : goal.returns-in-len6-up
returns-in-len6-up c = (search (rules, six, to_z-of_z), grind (arith, common_steps))

pub returns-in-len5-up : goal.returns-in-len5-up
returns-in-len5-up c = (search (rules, five, to_z-of_z), grind (arith, common_steps))

pub slice_bounds-rest-count : goal.slice_bounds-rest-count
slice_bounds-rest-count c = search rules

pub bounds-numbers-0 : goal.bounds-numbers-0
bounds-numbers-0 c = search rules

pub bounds-numbers-2 : goal.bounds-numbers-2
bounds-numbers-2 c = search rules

pub bounds-numbers-3 : goal.bounds-numbers-3
bounds-numbers-3 c = search rules

pub bounds-numbers-4 : goal.bounds-numbers-4
bounds-numbers-4 c = search rules

pub bounds-numbers-5 : goal.bounds-numbers-5
bounds-numbers-5 c = search rules

pub slice_bounds-rest-start : goal.slice_bounds-rest-start
slice_bounds-rest-start c = search rules

pub slice_bounds-rest-end : goal.slice_bounds-rest-end
slice_bounds-rest-end c = search rules

pub slice_bounds-rest-count-in_default : goal.slice_bounds-rest-count-in_default
slice_bounds-rest-count-in_default c = search rules

pub bounds-numbers-0-in_default : goal.bounds-numbers-0-in_default
bounds-numbers-0-in_default c = search rules

pub bounds-numbers-1 : goal.bounds-numbers-1
bounds-numbers-1 c = search rules

pub bounds-numbers-2-in_default : goal.bounds-numbers-2-in_default
bounds-numbers-2-in_default c = search rules

pub bounds-numbers-3-in_default : goal.bounds-numbers-3-in_default
bounds-numbers-3-in_default c = search rules

pub bounds-numbers-4-in_default : goal.bounds-numbers-4-in_default
bounds-numbers-4-in_default c = search rules

pub slice_bounds-rest-start-in_default : goal.slice_bounds-rest-start-in_default
slice_bounds-rest-start-in_default c = search rules

pub slice_bounds-rest-end-in_default : goal.slice_bounds-rest-end-in_default
slice_bounds-rest-end-in_default c = search rules

pub returns-in_default-numbers : goal.returns-in_default-numbers
returns-in_default-numbers c = search rules

pub returns-in_default-numbers-2 : goal.returns-in_default-numbers-2
returns-in_default-numbers-2 c = search rules
