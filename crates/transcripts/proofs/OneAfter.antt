-- What passes leaves one state.
use Rattle.std.proofs.Common.{◌≡◌, ◌∙◌, ℕ, List, sym}
use Rattle.taxi_base.specs.Airport.{Airport, IsWellFormed}
use Rattle.taxi_base.specs.State.{State}
use Rattle.replies.specs.declared.block.Block.{Block}
use Rattle.replies.specs.declared.block.Block.TheVariants.{Filed, Cancelled}
use Rattle.replies.specs.Passes.{IsPassed}
use Rattle.replies.proofs.OneReply.{IsDue-same}

pub passed-one : (airport : Airport) (state : State) (line : List ℕ) (block : Block) (one other : State) → IsWellFormed airport
    → IsPassed airport state line block one → IsPassed airport state line block other → one ≡ other
passed-one airport state line (Filed name start end) one other well a b = (IsDue-same (Filed name start end) one (Filed name start end) other airport state well line a.after_it b.after_it).1
passed-one airport state line (Cancelled name) one other well a b = (IsDue-same (Cancelled name) one (Cancelled name) other airport state well line a.after_it b.after_it).1
passed-one airport state line block one other well a b = a.after_it ∙ sym b.after_it
