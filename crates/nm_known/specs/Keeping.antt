-- Files of what replicas know, in a folder.
use Rattle.std.specs.Prelude.{◌≡◌, ℕ, List, ◌++◌, codes, decimal}
use Rattle.nm_book.specs.Book.{BookValue}
use Rattle.nm_known.specs.Known.{known_octets}

-- the name of that of a replica of a partition
abbrev pub known_name : (folder : List ℕ) → (partition replica : ℕ) → List ℕ
known_name folder partition replica =
    folder ++ codes "/" ++ decimal partition ++ codes "-" ++ decimal replica ++ codes ".known"

-- the file itself: its name and its octets
abbrev pub known_file : (folder : List ℕ) → BookValue → List ℕ × List ℕ
known_file folder b = (known_name folder b.partition b.replica, known_octets b)
