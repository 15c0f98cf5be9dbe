use Rattle.std.proofs.Common.{refl}
use Rattle.taxi_io.proofs.Outcomes.{if_ok, on_ok, on_err_both, failed-Rose}
use Rattle.taxi_io.proofs.file_shelf.FileShelfShelf.TheImpl.Goals as goal

pub begin-tells : goal.begin-tells
begin-tells g c =
    record {
      begun = c.ensures.begun;
      whole = on_ok c.result refl;
      tried = c.ensures.tried;
      given = c.ensures.given;
      failed = failed-Rose c.result _ _ c.ensures.faults;
      later = c.ensures.later;
      files = refl;
      names = λ name. (λ h. h, λ h. h);
    }

pub read-tells : goal.read-tells
read-tells g c =
    record {
      bound = c.ensures.bound;
      bytes = if_ok c.result (λ n. refl);
      end = if_ok c.result (λ n. tt);
      given = c.ensures.given;
      kept = on_err_both _ c.result refl c.ensures.kept;
      begun = c.ensures.begun;
      tried = c.ensures.tried;
      failed = failed-Rose c.result _ _ c.ensures.faults;
      later = c.ensures.later;
      files = refl;
      names = λ name. (λ h. h, λ h. h);
    }
