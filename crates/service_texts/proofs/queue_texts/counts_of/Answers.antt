use Rattle.service_texts.proofs.queue_texts.counts_of.Goals as goal

pub returns : goal.returns
returns c = record {
  entries = c.args.index.now.items;
  index = c.requires;
  order = c.len.ensures.order;
  waiting = c.len.ensures.count;
  held = c.held_among.ensures;
}
