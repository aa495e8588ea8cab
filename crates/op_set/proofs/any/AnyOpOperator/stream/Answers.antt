use Rattle.op_set.proofs.any.AnyOpOperator.stream.Goals as goal

pub returns-in-Filter : goal.returns-in-Filter
returns-in-Filter c = rw c.in-Filter.is c.stream.ensures

pub returns-in-Project : goal.returns-in-Project
returns-in-Project c = rw c.in-Project.is c.stream-in-Project.ensures
