-- What do the words of an arrival or a departure name?
use Rattle.std.specs.Prelude.{◌≡◌, Some}
use Rattle.taxi_base.specs.Airport.{Airport, node_named, class_named}
use Rattle.taxi_text.specs.declared.command.Asked.{Asked}
use Rattle.replies.specs.declared.words.Named.{Named}

-- the class and the nodes are those that the words name
pub record AreNamed (airport : Airport) (asked : Asked) (named : Named) : Type 0 where
  pub class_known : class_named airport asked.class ≡ Some named.class
  pub from_known : node_named airport asked.from ≡ Some named.from
  pub to_known : node_named airport asked.to ≡ Some named.to
