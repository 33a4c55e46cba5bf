use Rattle.std.proofs.Common.{rules, ◌≡◌, ◌++◌, ℕ, List, Ok, sym, subst, arith}
use Rattle.std.proofs.lemmas.Grind.{common_steps}
use Rattle.dsp_defs.specs.Au.{au_header, au_header_of, au_written_header}
use Rattle.dsp_defs.proofs.AuLaws.{au_header_of-au_header}
use Rattle.dsp_au.proofs.writer.write_au.Goals as goal

pub returns-clause-heads : goal.returns-clause-heads
returns-clause-heads c rest =
    let made : c.append-6.new.header.items ≡ au_header c.args.coding c.args.channels c.args.rate c.args.frames =
    first_of (search rules, grind (arith, common_steps)) in
    subst (λ (items : List ℕ). au_header_of (items ++ rest) ≡ Ok
    (au_written_header c.args.coding c.args.channels c.args.rate c.args.frames)) (sym made)
    (au_header_of-au_header c.args.channels c.args.rate c.args.frames rest c.requires.some c.requires.channels
    (omega (arith, c.ranges.rate)) c.args.coding c.requires.wave c.requires.size)
