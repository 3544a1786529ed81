-- Nodes of the tests.
use Rattle.std.specs.Prelude.{ℕ, ℤ, pos}
use Rattle.layout_tree.specs.declared.node.NodeSpec.{NodeSpec}
use Rattle.layout_tree.specs.declared.node.Kind.{Kind}

-- a node of version 1 with its noted width
abbrev pub node_of : Kind → ℤ → ℕ → ℕ → ℕ → NodeSpec
node_of k f p w o = record { kind = k; field = f; parent = p; bits = w; wide = w; offset = o; base = pos 0 }
