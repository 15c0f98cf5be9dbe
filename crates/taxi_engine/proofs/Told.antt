-- The windows of the ledger's store are those that are told.
use Rattle.std.proofs.Common.{◌≡◌, ◌<◌, length, None, subst, sym}
use Rattle.taxi_base.specs.declared.numbers.Segment.{Segment}
use Rattle.taxi_base.specs.Airport.{Airport}
use Rattle.taxi_base.specs.Windows.{is_free}
use Rattle.taxi_base.specs.State.{holds_in}
use Rattle.taxi_base.proofs.WindowLaws.{AreWindows-same}
use Rattle.window_store.specs.Store.{spans_at}
use Rattle.commitments.specs.Book.{Book, Fits}
use Rattle.replies.specs.CarriedOut.{windows_among}
use Rattle.replies.proofs.WindowsTold.{windows_among-are}
use Rattle.sequence_exchange.proofs.SearchedLaws.{all_stand}

pub windows-told : (airport : Airport) (book : Book) (segment : Segment) → Fits airport book → book.lifted ≡ None → segment.0 < length airport.segments
    → spans_at book.store segment ≡ windows_among airport book.state segment
windows-told airport book segment fits unlifted exists =
    AreWindows-same (is_free airport.conflicts airport.horizon (holds_in airport book.state) segment) (spans_at book.store segment) (windows_among airport book.state segment)
    (all_stand airport book fits unlifted segment (subst (λ n. segment.0 < n) (sym fits.lists) exists)).windows (windows_among-are airport book.state segment)
