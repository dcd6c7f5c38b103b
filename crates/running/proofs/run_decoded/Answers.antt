use Rattle.running.proofs.run_decoded.Goals as goal

pub run_record-requires : goal.run_record-requires
run_record-requires c =
    let s = c in
    let e = c.in-Good.is in
    record {
      sized = (s.requires.sized.0, rw e at s.requires.sized.1, s.requires.sized.2);
      by_index = (s.requires.by_index.0, s.requires.by_index.1, s.requires.by_index.2, rw e at s.requires.by_index.3);
      past = s.requires.past;
    }

pub returns-in-Good : goal.returns-in-Good
returns-in-Good c = let e = c.run_record.ensures in record {
  block_len = e.block_len;
  counts_after = λ tensors. rw c.in-Good.is (e.counts_after tensors);
}

pub returns-in-Bad : goal.returns-in-Bad
returns-in-Bad c = record {
  block_len = c.requires.past.2;
  counts_after = λ tensors. rw c.in-Bad.is;
}
