-- What is written where words are of no form?
use Rattle.std.specs.Prelude.{ℕ, List, [], ◌∷◌, ◌++◌, codes}

abbrev pub usage_line : List ℕ
usage_line =
    codes "usage: taxi route AIRPORT COMMANDS; taxi check AIRPORT COMMANDS TRANSCRIPT; taxi generate NUMBER SIDE FLIGHTS; taxi migrate AIRPORT; taxi import AIRPORT SCHEDULE" ++ 10 ∷ []
