-- What is written where words are of no form?
use Rattle.std.specs.Prelude.{ℕ, List, codes}

abbrev pub usage_line : List ℕ
usage_line =
    codes "usage: taxi-tools plan AIRPORT COMMANDS [START]; taxi-tools figures AIRPORT COMMANDS; taxi-tools explain AIRPORT COMMANDS K; taxi-tools checkpoint AIRPORT COMMANDS; taxi-tools lint AIRPORT; taxi-tools graph AIRPORT; taxi-tools json AIRPORT COMMANDS\n"
