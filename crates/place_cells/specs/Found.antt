-- What do the values over cells stand for?
use Rattle.taxi_base.specs.declared.rows.LabelRow.{LabelRow}
use Rattle.label_search.specs.declared.values.CellValue.{CellValue}
use Rattle.walk_labels.specs.Places.{place_at, label_at}
use Rattle.place_cells.specs.Ground.{Ground, cells_of}

-- the label of a cell's value
abbrev pub row_in : Ground → CellValue → LabelRow
row_in g row = label_at (place_at (cells_of g) row.cell) row.value
