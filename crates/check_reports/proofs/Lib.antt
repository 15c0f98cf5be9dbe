pub mod OccupiedLaws
