use Rattle.dsp_script.proofs.reader.block.Goals as goal

pub returns-in-Offset : goal.returns-in-Offset
returns-in-Offset c = rw c.in-Offset.is (c.offset.ensures c.args.lists.now.tables)

pub returns-in-Scale : goal.returns-in-Scale
returns-in-Scale c = rw c.in-Scale.is (c.scale.ensures c.args.lists.now.tables)

pub returns-in-Shift : goal.returns-in-Shift
returns-in-Shift c = rw c.in-Shift.is (c.shift.ensures c.args.lists.now.tables)

pub returns-in-Clip : goal.returns-in-Clip
returns-in-Clip c = rw c.in-Clip.is (c.clip.ensures c.args.lists.now.tables)

pub returns-in-To : goal.returns-in-To
returns-in-To c = rw c.in-To.is (c.to.ensures c.args.lists.now.tables)

pub returns-in-Pid : goal.returns-in-Pid
returns-in-Pid c = rw c.in-Pid.is (c.pid.ensures c.args.lists.now.tables)

pub returns-in-MatScale : goal.returns-in-MatScale
returns-in-MatScale c = rw c.in-MatScale.is (c.mat_scale.ensures c.args.lists.now.tables)

pub returns-in-MatTrans : goal.returns-in-MatTrans
returns-in-MatTrans c = rw c.in-MatTrans.is (c.mat_trans.ensures c.args.lists.now.tables)
