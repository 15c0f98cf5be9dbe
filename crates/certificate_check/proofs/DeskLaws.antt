-- What the parts of a checker say of the flights in force.
use Rattle.std.proofs.Common.{◌≡◌, ◌↔◌, ◌∙◌, ℕ, ◌<◌, Bool, true, false, ◌&&◌, eqb, List, length, Option, Some, None, IsTrue, IsFalse, refl, sym, ap, subst}
use Rattle.std.specs.Prelude.{All, bytes_eq}
use Rattle.std.specs.Cmp.Lexicographic.{bytes_decides}
use Rattle.std.specs.Bool.{Decides}
use Rattle.std.proofs.lemmas.Bool.{lt-ltb, false≢true, both_ways, and_parts, and_from, eqb-true, eq-eqb}
use Rattle.std.proofs.lemmas.List.Elements.{All-contains}
use Rattle.taxi_base.specs.declared.numbers.Segment.{Segment}
use Rattle.taxi_base.specs.declared.rows.Span.{Span}
use Rattle.taxi_base.specs.declared.answers.Flight.{Flight}
use Rattle.taxi_base.specs.declared.answers.Party.{Party}
use Rattle.taxi_base.specs.Airport.{Airport, layout_of, arc_exists, segment_named}
use Rattle.taxi_base.specs.Windows.{is_free, AreWindows}
use Rattle.taxi_base.specs.Walks.{IsFeasibleWalk, free_among}
use Rattle.taxi_base.specs.State.{State, flight_named, party_named, holds_in, conditions_of, IsSound}
use Rattle.taxi_base.proofs.NamedLists.{find-named}
use Rattle.taxi_base.proofs.WalkLaws.{IsFeasibleWalk-steps}
use Rattle.taxi_base.proofs.WindowLaws.{AreWindows-same}
use Rattle.taxi_text.specs.declared.command.Command.TheVariants as command
use Rattle.replies.specs.declared.block.Block.{Block}
use Rattle.replies.specs.declared.block.Block.TheVariants.{Windows}
use Rattle.replies.specs.CarriedOut.{windows_among}
use Rattle.replies.proofs.FlightLaws.{find-there, flight_named-there, flight_named-name}
use Rattle.replies.proofs.WindowsTold.{windows_among-are}
use Rattle.certificate_check.specs.Judged.{passed_if, IsAfterFor, IsJudged}
use Rattle.certificate_check.proofs.JudgedLaws.{done-judged, undone-judged}

module _ (airport : Airport) (state : State) (sound : IsSound airport state) (name : List ℕ) (flight : Flight) (found : flight_named name state.flights ≡ Some flight) where
  pub flight-walk : IsFeasibleWalk (conditions_of airport state flight) flight.steps
  flight-walk = All-contains (λ f. IsFeasibleWalk (conditions_of airport state f) f.steps) state.flights flight sound.feasible.walks (flight_named-there name state.flights flight found)

  pub flight-arcs : All (λ step. IsTrue (arc_exists (layout_of airport) step.arc)) flight.steps
  flight-arcs k d low = (IsFeasibleWalk-steps (conditions_of airport state flight) flight.steps flight-walk k d low).on_arc

  -- no party has the name
  pub flight-alone : party_named name state.parties ≡ None
  flight-alone = go (party_named name state.parties) refl where
    go : (o : Option Party) → party_named name state.parties ≡ o → party_named name state.parties ≡ None
    go None none = none
    go (Some party) there =
        let others : All (λ f. IsFalse (bytes_eq f.name party.name)) state.flights =
        All-contains (λ p. All (λ f. IsFalse (bytes_eq f.name p.name)) state.flights) state.parties party sound.feasible.differ (find-there (λ (p : Party). bytes_eq p.name name) state.parties party there) in
        let other : IsFalse (bytes_eq flight.name party.name) = All-contains (λ f. IsFalse (bytes_eq f.name party.name)) state.flights flight others (flight_named-there name state.flights flight found) in
        let same : flight.name ≡ party.name = flight_named-name name state.flights flight found ∙ sym (find-named (λ (p : Party). p.name) name state.parties party there) in
        absurd (both_ways _ other ((bytes_decides flight.name party.name).1 same))

-- the windows that are known are those that are told
pub windows-known : (airport : Airport) (state : State) (segment : Segment) (windows : List Span) → segment.0 < length airport.segments
    → AreWindows (free_among airport (holds_in airport state) segment) windows → windows ≡ windows_among airport state segment
windows-known airport state segment windows on are =
    AreWindows-same (is_free airport.conflicts airport.horizon (holds_in airport state) segment) windows (windows_among airport state segment)
    (record { apart = are.apart; same = λ t. are.same t ∙ here t }) (windows_among-are airport state segment)
  where
    here : (t : ℕ) → free_among airport (holds_in airport state) segment t ≡ is_free airport.conflicts airport.horizon (holds_in airport state) segment t
    here t = rw (lt-ltb segment.0 (length airport.segments) on) refl

pub windows-judged : (airport : Airport) (state : State) (name : List ℕ) (segment : Segment) (block : Block) (windows : List Span) → segment_named airport name ≡ Some segment
    → windows ≡ windows_among airport state segment → (kept : Bool) → IsTrue kept ↔ (block ≡ Windows segment windows) → IsJudged airport (command.Windows name) block state (passed_if kept) state
windows-judged airport state name segment block windows known are true same =
    let is : block ≡ Windows segment (windows_among airport state segment) = same.0 refl ∙ (λ i. Windows segment (are i)) in
    done-judged airport state (command.Windows name) block (rw known refl) tt state (record { segment = segment; known = known; reply = (is, refl) })
    (subst (λ b. IsAfterFor airport state (command.Windows name) b state) (sym is) refl)
windows-judged airport state name segment block windows known are false same =
    undone-judged airport state (command.Windows name) block (rw known refl) tt (λ after done.
    let one : done.segment ≡ segment = cc (sym done.known ∙ known) in
    let is : block ≡ Windows segment (windows_among airport state segment) = subst (λ (s : Segment). block ≡ Windows s (windows_among airport state s)) one done.reply.0 in
    absurd (false≢true (same.1 (is ∙ (λ i. Windows segment (sym are i))))))

-- ---- rows that are compared

pub span-decides : (a b : Span) → Decides (eqb a.from b.from && eqb a.until b.until) (a ≡ b)
span-decides a b = (
  λ e. (let parts = and_parts _ _ e in
      let from = eqb-true _ _ parts.0 in
      let until = eqb-true _ _ parts.1 in
      λ i. record { from = from i; until = until i }),
  λ e. and_from _ _ (eq-eqb _ _ (ap (λ (s : Span). s.from) e)) (eq-eqb _ _ (ap (λ (s : Span). s.until) e)),
)

pub windows-is : (block : Block) (told segment : Segment) (list windows : List Span) (r : Bool) → block ≡ Windows told list → told.0 ≡ segment.0 → Decides r (list ≡ windows)
    → IsTrue r ↔ (block ≡ Windows segment windows)
windows-is block told segment list windows r is number decides = (
  λ e. is ∙ (λ i. Windows (record { 0 = number i }) (decides.0 e i)),
  λ e. decides.1 (same-list (sym is ∙ e)),
)
  where
    same-list : {s t : Segment} {xs ys : List Span} → Windows s xs ≡ Windows t ys → xs ≡ ys
    same-list e = cc
