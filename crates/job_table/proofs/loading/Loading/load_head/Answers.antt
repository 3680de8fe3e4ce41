-- Nothing was read before the head.
use Rattle.std.proofs.Common.{refl, sym, subst}
use Rattle.job_table.specs.LoadingFields.{progress_of, IsReading}
use Rattle.job_table.proofs.Loaded.{progress_is, reading_head}
use Rattle.job_table.specs.Loading.{loaded}
use Rattle.spool_types.specs.declared.listing.Row.TheVariants.{Head as HeadRow}
use Rattle.job_table.proofs.loading.Loading.load_head.Goals as goal

pub invariant_of-self : goal.invariant_of-self
invariant_of-self c = record {
  reading = subst IsReading
      (sym (progress_is (loaded (progress_of c.self.inside) (HeadRow c.args.head)) _ c.set_head.ensures.state refl (c.self.invariant.reading.fresh c.if-self.false).whole))
      (reading_head (progress_of c.self.inside) c.args.head);
  measured = c.self.invariant.measured;
}
