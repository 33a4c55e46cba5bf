use Rattle.std.proofs.Common.{◌≡◌, ◌<◌, Some, None, Ok, false}
use Rattle.std.proofs.lemmas.Result.{err_from_is_err_and}
use Rattle.dsp_defs.specs.declared.limits.TheConstants.{MAX_BLOCKS}
use Rattle.dsp_defs.specs.Grammar.{input_flow}
use Rattle.dsp_defs.specs.Places.{next_at}
use Rattle.dsp_defs.specs.Reading.{next_block, blocks_at}
use Rattle.dsp_script.proofs.BlockLaws.{few_channels}
use Rattle.dsp_script.proofs.Loops.{blocks_go_on, blocks_fail_at_word, blocks_fail_within, blocks_done}
use Rattle.dsp_script.proofs.reader.blocks.Goals as goal

pub returns-in_err-word : goal.returns-in_err-word
returns-in_err-word c =
    let p = err_from_is_err_and c.from_residual.result c.from_residual.ensures.1 in
    rw (p.1, p.2) (blocks_fail_at_word c.args.lists.now.tables c.loop-blocks.blocks c.loop-blocks.left
    c.loop-blocks.correlated c.loop-blocks.flow c.loop-blocks.cursor c.in_err-word.field-0.0
    (blocks_at c.args.lists.now.tables MAX_BLOCKS false (input_flow c.args.input) c.args.cursor.now)
    c.in_err-word.ensures.value c.loop-blocks.invariant.1)

pub returns-in_err-block : goal.returns-in_err-block
returns-in_err-block c =
    let p = err_from_is_err_and c.from_residual-in_err-block.result c.from_residual-in_err-block.ensures.1 in
    let next : next_at (next_block c.loop-blocks.left c.loop-blocks.correlated c.loop-blocks.flow)
    c.loop-blocks.cursor ≡ Ok (Some c.in-Some.word, c.next_block.new.cursor) =
    rw c.in-Some.is at c.in_ok-word.ensures.value in
    let some : 0 < c.loop-blocks.left = rw c.in-Some.is at c.in_ok-word.ensures.room in
    rw (p.1, p.2) (blocks_fail_within c.args.lists.now.tables c.in_err-block.field-0.0 c.loop-blocks.blocks
    c.loop-blocks.left c.loop-blocks.correlated c.loop-blocks.flow c.loop-blocks.cursor c.next_block.new.cursor
    c.in-Some.word (blocks_at c.args.lists.now.tables MAX_BLOCKS false (input_flow c.args.input) c.args.cursor.now)
    some next c.in_err-block.ensures c.loop-blocks.invariant.1)

pub loop-blocks-preserved : goal.loop-blocks-preserved
loop-blocks-preserved c =
    let next : next_at (next_block c.loop-blocks.left c.loop-blocks.correlated c.loop-blocks.flow)
    c.loop-blocks.cursor ≡ Ok (Some c.in-Some.word, c.next_block.new.cursor) =
    rw c.in-Some.is at c.in_ok-word.ensures.value in
    let some : 0 < c.loop-blocks.left = rw c.in-Some.is at c.in_ok-word.ensures.room in
    let few = few_channels c.args.lists.now.tables c.in-Some.word c.loop-blocks.flow c.next_block.new.cursor
    c.block.new.cursor c.in_ok-block.block c.in_ok-block.ensures c.loop-blocks.invariant.0 in
    rw (c.in_ok-push.ensures.ok, c.correlated_after-correlated.ensures, c.after-flow.ensures) (
      few,
      blocks_go_on c.args.lists.now.tables c.loop-blocks.blocks c.loop-blocks.left c.loop-blocks.correlated
          c.loop-blocks.flow c.loop-blocks.cursor c.next_block.new.cursor c.block.new.cursor c.in-Some.word
          c.in_ok-block.block (blocks_at c.args.lists.now.tables MAX_BLOCKS false (input_flow c.args.input)
          c.args.cursor.now) some next c.in_ok-block.ensures c.loop-blocks.invariant.1,
    )

pub returns : goal.returns
returns c =
    let e : next_at (next_block c.loop-blocks.left c.loop-blocks.correlated c.loop-blocks.flow) c.loop-blocks.cursor ≡
    Ok (None, c.next_block.new.cursor) = rw c.in_default.is at c.in_ok-word.ensures.value in
    blocks_done c.args.lists.now.tables c.loop-blocks.blocks c.loop-blocks.left c.loop-blocks.correlated
    c.loop-blocks.flow c.loop-blocks.cursor c.next_block.new.cursor
    (blocks_at c.args.lists.now.tables MAX_BLOCKS false (input_flow c.args.input) c.args.cursor.now) e
    c.loop-blocks.invariant.1

pub after-flow-requires : goal.after-flow-requires
after-flow-requires c = few_channels c.args.lists.now.tables c.in-Some.word c.loop-blocks.flow
    c.next_block.new.cursor c.block.new.cursor c.in_ok-block.block c.in_ok-block.ensures
    c.loop-blocks.invariant.0
