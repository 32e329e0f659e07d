-- An area after the writes of a call. Assumes nothing.
use Rattle.std.specs.Prelude.{ℕ, ◌+◌, ◌*◌, List}
use Rattle.little.specs.Little.{written}
use Rattle.model.specs.declared.Plan.{Plan}
use Rattle.model.specs.declared.Figures.{Figures}
use Rattle.model.specs.Sizes.{record_length, header_length}
use Rattle.model.specs.Area.{header_of}

-- the i-th record, then the header
unfoldable pub rewritten : Plan → ℕ → List ℕ → ℕ → Figures → List ℕ → List ℕ
rewritten p i bytes_of_record count figures area =
    written 0 (header_of p count figures) (written (header_length + record_length * i) bytes_of_record area)
