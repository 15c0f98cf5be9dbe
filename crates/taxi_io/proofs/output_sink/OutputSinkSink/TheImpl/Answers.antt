use Rattle.std.proofs.Common.{refl}
use Rattle.taxi_io.proofs.Outcomes.{if_ok, on_err, failed-Rose}
use Rattle.taxi_io.proofs.output_sink.OutputSinkSink.TheImpl.Goals as goal

pub write-tells : goal.write-tells
write-tells g c =
    record {
      some = c.ensures.some;
      bound = c.ensures.bound;
      grew = if_ok c.result (λ n. refl);
      kept = on_err c.result refl;
      handed = c.ensures.handed;
      failed = failed-Rose c.result _ _ c.ensures.faults;
      later = c.ensures.later;
    }
