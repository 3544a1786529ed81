-- Room as numbers: nodes, and the bytes of texts and binaries.
use Rattle.std.specs.Prelude.{ℕ, ◌-◌, ◌≤◌, max}
use Rattle.typed_tree.specs.declared.room.Room.{Room}

abbrev pub room_of : ℕ → ℕ → Room
room_of nodes bytes = record { nodes = nodes; bytes = bytes }

-- what is left of a room when so much of it is used; where it was less, nothing
abbrev pub without : Room → Room → Room
without room used = room_of (room.nodes - used.nodes) (room.bytes - used.bytes)

-- at least the room of both
abbrev pub greater : Room → Room → Room
greater room other = room_of (max room.nodes other.nodes) (max room.bytes other.bytes)

-- there is room for so much
pub record HasRoom (room used : Room) : Type 0 where
  pub nodes : used.nodes ≤ room.nodes
  pub bytes : used.bytes ≤ room.bytes
