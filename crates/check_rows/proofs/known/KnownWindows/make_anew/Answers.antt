use Rattle.std.proofs.Common.{ℕ, true, false, refl, subst, arith}
use Rattle.std.proofs.lemmas.Bool.{false≢true}
use Rattle.taxi_base.specs.Windows.{is_free, AreWindows}
use Rattle.conflict_sets.specs.Conflicts.{ConflictSets}
use Rattle.check_rows.proofs.KnownLaws.{AreKnown-set, is_known-set, windows-among}
use Rattle.check_rows.proofs.known.KnownWindows.make_anew.Goals as goal

pub returns-in_err-fill_windows-clause-known : goal.returns-in_err-fill_windows-clause-known
returns-in_err-fill_windows-clause-known g c =
    AreKnown-set _ _ c.args.self.now _ c.args.segment (record { windows = c.fill_windows.new.windows; is_made = false; found = _ }) c.requires.known c.requires.on refl
    (λ made. absurd (false≢true made))

pub returns-clause-known : goal.returns-clause-known
returns-clause-known g c =
    AreKnown-set _ _ c.args.self.now _ c.args.segment (record { windows = c.fill_windows.new.windows; is_made = true; found = _ }) c.requires.known c.requires.on refl
    (λ _. windows-among c.args.airport.now (g.H.HoldsOf.held c.args.holds.now) c.args.segment c.fill_windows.new.windows.items c.requires.on
    (subst (λ (n : ℕ). AreWindows (is_free c.args.airport.now.conflicts n (g.H.HoldsOf.held c.args.holds.now) c.args.segment) c.fill_windows.new.windows.items) c.horizon-horizon.ensures.horizon
    (subst (λ (x : ConflictSets). AreWindows (is_free x.sets c.horizon-horizon.result (g.H.HoldsOf.held c.args.holds.now) c.args.segment) c.fill_windows.new.windows.items) c.conflicts-conflicts.ensures c.in_ok-fill_windows.ensures)))

pub returns-clause-made : goal.returns-clause-made
returns-clause-made g c =
    is_known-set c.args.self.now.lists.items c.args.segment (record { windows = c.fill_windows.new.windows; is_made = true; found = _ }) (omega (arith, c.requires.on, c.requires.known.count)) refl
