-- The names of the kinds of faults.
use Rattle.std.specs.Prelude.{ℕ, List, codes}
use Rattle.lgf_file.specs.declared.faults.LgfKind.{LgfKind}
use Rattle.lgf_file.specs.declared.faults.LgfKind.TheVariants as kinds

-- The name that is printed of a kind.
abbrev pub kind_name : LgfKind → List ℕ
kind_name kinds.NoNodes = codes "NoNodes"
kind_name kinds.NoArcs = codes "NoArcs"
kind_name kinds.ArcsFirst = codes "ArcsFirst"
kind_name kinds.Token = codes "Token"
kind_name kinds.TooMany = codes "TooMany"
kind_name kinds.DashColumn = codes "DashColumn"
kind_name kinds.TwiceColumn = codes "TwiceColumn"
kind_name kinds.NoLabel = codes "NoLabel"
kind_name kinds.ShortRow = codes "ShortRow"
kind_name kinds.LongRow = codes "LongRow"
kind_name kinds.UnknownLabel = codes "UnknownLabel"
kind_name kinds.TwiceLabel = codes "TwiceLabel"
kind_name kinds.TwiceAttribute = codes "TwiceAttribute"
