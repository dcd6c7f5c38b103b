use Rattle.step_bytes.proofs.put_whole_content.Goals as goal

pub returns-in-Vector : goal.returns-in-Vector
returns-in-Vector c = rw c.in-Vector.is c.put_vector.ensures
