-- The canonical text of an airport is read as that airport.
use Rattle.std.proofs.Common.{◌≡◌, ◌≢◌, ℕ, ◌≤◌, ◌/◌, List, [], ◌∷◌, ◌++◌, length, map, Some, Ok, refl, subst, arith, ◌∙◌, ap}
use Rattle.std.specs.Prelude.{All, IsTrue, decimal}
use Rattle.std.proofs.lemmas.List.Elements.{All-nil, All-cons, All-weaker}
use Rattle.csv.specs.Reading.{default_config, records, strip_bom}
use Rattle.csv.specs.Writing.{row_text, fields_text, is_blank, escaped}
use Rattle.taxi_base.specs.declared.numbers.Arc.{Arc}
use Rattle.taxi_base.specs.Airport.{Airport, IsWellFormed, link_of, layout_of, meet, head, tail}
use Rattle.airport_file.specs.Reading.{airport_of, airport_of_records}
use Rattle.airport_rules.specs.declared.version.Version.TheVariants.{Two}
use Rattle.airport_rules.specs.Plan.{Plan, empty_plan}
use Rattle.airport_rules.specs.Rules.{judge, judge_horizon, number_within}
use Rattle.airport_rules.proofs.WellFormed.{ends_at-links}
use Rattle.airport_text.specs.Canonical.{Fields, canonical_text, canonical_records, text_of_records, record_writer, first_record, horizon_record, node_record, class_record, segment_record, time_records, clearance_records, forbid_record, conflict_record}
use Rattle.airport_text.proofs.Texts.{HasField, records-again}
use Rattle.airport_text.proofs.Judging.{AreTaken, taken-append, taken-read}
use Rattle.airport_text.proofs.Named.{with_nodes, with_classes, nodes-taken, classes-taken}
use Rattle.airport_text.proofs.Ways.{with_segments, ways-taken}
use Rattle.airport_text.proofs.Times.{with_times, rows_below, number-taken, times-taken}
use Rattle.airport_text.proofs.Clearances.{with_clearances, clearances_below, clearances-taken}
use Rattle.airport_text.proofs.Turns.{with_forbidden, IsTurn, turns-taken}
use Rattle.airport_text.proofs.Sets.{sets-taken}
use Rattle.airport_text.proofs.Plans.{plan_of, airport-again}

-- ---- the plan after each kind of record

abbrev with_horizon : Airport → Plan
with_horizon airport = record empty_plan { horizon = Some airport.horizon }

abbrev with_its_nodes : Airport → Plan
with_its_nodes airport = with_nodes (with_horizon airport) (map (λ n. n.name) airport.nodes) (map (λ n. n.kind) airport.nodes)

abbrev with_its_classes : Airport → Plan
with_its_classes airport = with_classes (with_its_nodes airport) (map (λ c. c.name) airport.classes)

abbrev with_its_segments : Airport → Plan
with_its_segments airport = with_segments (with_its_classes airport) (map (λ s. s.name) airport.segments) (map link_of airport.segments)

abbrev with_its_times : Airport → Plan
with_its_times airport = with_times (with_its_segments airport) (rows_below airport (length airport.segments))

abbrev with_its_clearances : Airport → Plan
with_its_clearances airport = with_clearances (with_its_times airport) (clearances_below airport (length airport.classes))

abbrev with_its_turns : Airport → Plan
with_its_turns airport = with_forbidden (with_its_clearances airport) airport.forbidden

-- ---- each kind of record

horizon-judged : (number : List ℕ) (horizon : ℕ) → number_within 1 604800 number ≡ Some horizon → judge_horizon empty_plan number ≡ Ok (record empty_plan { horizon = Some horizon })
horizon-judged number horizon e = rw e refl

horizon-taken : (airport : Airport) → IsWellFormed airport → judge Two empty_plan (horizon_record airport) ≡ Ok (with_horizon airport)
unfolding judge
horizon-taken airport well =
    let range = well.horizon in
    horizon-judged (decimal airport.horizon) airport.horizon (number-taken 1 604800 airport.horizon range.0 range.1 (omega (arith, range.1)))

segments-taken : (airport : Airport) → IsWellFormed airport → AreTaken (with_its_classes airport) (map (segment_record airport) airport.segments) (with_its_segments airport)
segments-taken airport well =
    ways-taken airport (with_its_classes airport) (with_its_segments airport) airport.segments refl well.nodes well.ends well.segments
    (λ k low. subst (λ n. n ≤ 32) (ends_at-links (record { 0 = k }) airport.segments) (well.degree k low)) refl

turns-are : (airport : Airport) → IsWellFormed airport → All (IsTurn airport) airport.forbidden
turns-are airport well =
    All-weaker (λ (p : Arc × Arc). IsTrue (meet (head (layout_of airport) p.0) (tail (layout_of airport) p.1)) × (p.0.0 / 2 ≢ p.1.0 / 2)) (IsTurn airport)
    (λ p h. record { meets = h.0; turns = h.1 }) airport.forbidden well.forbidden

-- ---- all records

abbrev after_first : Airport → List Fields
after_first airport =
    horizon_record airport
    ∷ (map node_record airport.nodes
    ++ (map class_record airport.classes
    ++ (map (segment_record airport) airport.segments
    ++ (time_records airport
    ++ (clearance_records airport
    ++ (map (forbid_record airport) airport.forbidden
    ++ map (conflict_record airport) airport.conflicts))))))

all-taken : (airport : Airport) → IsWellFormed airport → AreTaken empty_plan (after_first airport) (plan_of airport)
all-taken airport well =
    let end : Plan = plan_of airport in (
      with_horizon airport,
      horizon-taken airport well,
      taken-append (with_horizon airport) (with_its_nodes airport) end _ _
          (nodes-taken (with_horizon airport) (with_its_nodes airport) airport.nodes well.nodes refl)
          (taken-append (with_its_nodes airport) (with_its_classes airport) end _ _
          (classes-taken (with_its_nodes airport) (with_its_classes airport) airport.classes well.classes refl)
          (taken-append (with_its_classes airport) (with_its_segments airport) end _ _ (segments-taken airport well)
          (taken-append (with_its_segments airport) (with_its_times airport) end _ _
          (times-taken airport (with_its_segments airport) (record { well = well; segments = refl; classes = refl }) refl)
          (taken-append (with_its_times airport) (with_its_clearances airport) end _ _
          (clearances-taken airport (with_its_times airport) (record { well = well; segments = refl; classes = refl }) refl)
          (taken-append (with_its_clearances airport) (with_its_turns airport) end _ _
          (turns-taken airport (with_its_clearances airport) (with_its_turns airport) airport.forbidden (record { well = well; segments = refl; classes = refl }) refl (turns-are airport well)
          well.forbidden_order well.few_forbidden refl)
          (sets-taken airport (with_its_turns airport) end airport.conflicts (record { well = well; segments = refl; classes = refl }) well.conflicts well.few_conflicts refl)))))),
    )

-- ---- the text

-- a record that the rules let through has a field
taken-fields : (plan new : Plan) (rows : List Fields) → AreTaken plan rows new → All HasField rows
unfolding judge
taken-fields plan new [] h = All-nil HasField
taken-fields plan new ([] ∷ rows) h = absurd (cc h.1)
taken-fields plan new ((f ∷ fields) ∷ rows) h = All-cons HasField (f ∷ fields) rows (omega arith) (taken-fields h.0 new rows h.2)

-- the text begins with no byte order mark
strip-first : (rest : List ℕ) → strip_bom (row_text record_writer first_record ++ rest) ≡ row_text record_writer first_record ++ rest
unfolding strip_bom fields_text is_blank escaped
strip-first rest = refl

records-are : (airport : Airport) → IsWellFormed airport → records default_config (strip_bom (canonical_text airport)) ≡ canonical_records airport
unfolding canonical_text
records-are airport well =
    ap (records default_config) (strip-first (text_of_records (after_first airport)))
    ∙ records-again (canonical_records airport) (All-cons HasField first_record (after_first airport) (omega arith) (taken-fields empty_plan (plan_of airport) (after_first airport) (all-taken airport well)))

pub text-again : (airport : Airport) → IsWellFormed airport → airport_of (canonical_text airport) ≡ Ok airport
unfolding airport_of
text-again airport well =
    ap airport_of_records (records-are airport well)
    ∙ taken-read 1 airport.horizon empty_plan (plan_of airport) (after_first airport) (all-taken airport well) refl
    ∙ ap Ok (airport-again airport well)
