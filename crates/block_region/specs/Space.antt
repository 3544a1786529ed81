-- What contracts see of a region and of its blocks.
use Rattle.std.specs.Prelude.{◌≡◌, ℕ, ◌+◌, ◌-◌, ◌≤◌, List, ◌++◌, length, take, drop, replicate, refl}
use Rattle.std.specs.Coded.{Coded, code_by, coded×, coded_ℕ, coded_list}

-- a region: all its bytes, and how many of them are handed out
pub record Space : Type 0 where
  pub bytes : List ℕ
  pub taken : ℕ

-- a block: where it starts in its region, and its length
pub record Span : Type 0 where
  pub start : ℕ
  pub len : ℕ

-- a region of that size whose part in use is xs: all behind it is zero
abbrev pub space_of : List ℕ → ℕ → Space
space_of xs size = record { bytes = xs ++ replicate (size - length xs) 0; taken = length xs }

-- what is so of every region: the part that is handed out lies in it, and all behind that part is zero
pub record IsRegion (s : Space) : Type 0 where
  pub inside : s.taken ≤ length s.bytes
  pub blank : drop s.taken s.bytes ≡ replicate (length s.bytes - s.taken) 0

-- the region where the part handed out ends with the block
abbrev pub handed_out : Space → Span → Space
handed_out s b = record s { taken = b.start + b.len }

-- the block lies in the part that is handed out
abbrev pub IsTaken : Space → Span → Type 0
IsTaken s b = b.start + b.len ≤ s.taken

-- the bytes of a block
abbrev pub block_bytes : Space → Span → List ℕ
block_bytes s b = take b.len (drop b.start s.bytes)

-- the bytes that are handed out
abbrev pub in_use : Space → List ℕ
in_use s = take s.taken s.bytes

-- bytes with ws written over those from a place on
abbrev pub overwritten : List ℕ → ℕ → List ℕ → List ℕ
overwritten bs start ws = take start bs ++ (ws ++ drop (start + length ws) bs)

-- the region with ws written over the bytes of a block, where ws is as long as the block
abbrev pub written : Space → Span → List ℕ → Space
written s b ws = record { bytes = overwritten s.bytes b.start ws; taken = s.taken }

-- What a loan leaves of the region, where ws is what the borrower left. A loan keeps the block's length, and a list of
-- any other is cut where the part that is handed out ends. All behind that part stays.
abbrev pub returned : Space → Span → List ℕ → Space
returned s b ws = record {
  bytes = take s.taken (overwritten (in_use s) b.start ws) ++ drop s.taken s.bytes;
  taken = s.taken;
}

-- a region of so many bytes with the same part handed out
abbrev pub grown : Space → ℕ → Space
grown s len = record { bytes = in_use s ++ replicate (len - s.taken) 0; taken = s.taken }

-- each is stored as the pair of its fields
abbrev pub space_code : Coded Space
space_code = code_by (List ℕ × ℕ) (coded× (coded_list coded_ℕ) coded_ℕ) (λ s. (s.bytes, s.taken))
    (λ p. record { bytes = p.0; taken = p.1 }) (λ _. refl)

abbrev pub span_code : Coded Span
span_code = code_by (ℕ × ℕ) (coded× coded_ℕ coded_ℕ) (λ b. (b.start, b.len)) (λ p. record { start = p.0; len = p.1 })
    (λ _. refl)
