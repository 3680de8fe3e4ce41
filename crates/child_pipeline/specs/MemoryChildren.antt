-- The meaning of the fields of children in memory.
use Rattle.std.specs.Prelude.{◌+◌, ◌≤◌, vec_len, vec_capacity}
use Rattle.std.specs.Vec.Iter.{into_iter_items, into_iter_len}
use Rattle.child_pipeline.specs.ChildTraces.{ChildTrace}
use Rattle.child_pipeline.specs.declared.memory.MemChildren.TheInside.{Inside}

abbrev pub told_of : Inside → ChildTrace
told_of a = record {
  starts = into_iter_items a.starts;
  finishes = into_iter_items a.finishes;
  looks = into_iter_items a.looks;
  orders = a.orders.items;
  running = a.running.items;
  finished = a.finished;
}

-- Memory is reserved for the orders to come, and each finish has an order.
pub record HasRoom (a : Inside) : Type 0 where
  pub orders : vec_len a.orders + into_iter_len a.starts ≤ vec_capacity a.orders
  pub running : vec_len a.running + into_iter_len a.starts ≤ vec_capacity a.running
  pub finished : vec_len a.running + a.finished ≤ vec_len a.orders
