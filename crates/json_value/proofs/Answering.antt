-- The answers of looking for faults in a text, and that each is given where its cause holds.
use Rattle.std.proofs.Common.{◌≡◌, ◌⊎◌, inl, inr, ℕ, suc, ◌+◌, List, [], ◌∷◌, ◌++◌, Bool, true, false, cond, ◌&&◌, Option, Some}
use Rattle.std.proofs.Common.{None, Ok, Err, refl, sym, ap, subst, ◌∙◌}
use Rattle.std.specs.Prelude.{IfSome, not, is_some}
use Rattle.serde_json.specs.Data.{Data, null, boolean, number, string, array, object}
use Rattle.serde_json.specs.Data.{Items, no_items, item, Members, no_members, member}
use Rattle.serde_json.specs.Find.{get_member}
use Rattle.idl_profile.specs.declared.kinds.TypeKind.{TypeKind}
use Rattle.idl_profile.specs.declared.kinds.TypeKind.TheVariants as kinds
use Rattle.idl_profile.specs.Types.{TypeTree, DefField, fields_of, kind_of}
use Rattle.idl_parse.specs.Refs.{element_of, key_of, value_of}
use Rattle.frozen_model.specs.Values.{Value}
use Rattle.typed_reading.specs.declared.fault.NodeFault.{NodeFault}
use Rattle.typed_reading.specs.declared.fault.NodeFault.TheVariants as node
use Rattle.typed_reading.specs.declared.fault.Found.{Found}
use Rattle.typed_reading.specs.Faults.{here, if_here, all_here, is_key_among, is_required, repeats, lesser, least}
use Rattle.typed_reading.specs.Faults.{is_less}
use Rattle.typed_reading.proofs.LeastLaws.{least_none}
use Rattle.json_value.specs.declared.fault.JsonFault.{JsonFault}
use Rattle.json_value.specs.declared.fault.JsonFault.TheVariants as fault
use Rattle.json_value.specs.Leaves.{is_leaf}
use Rattle.json_value.specs.Nodes.{nodes}
use Rattle.json_value.specs.Faults.{missing, wrong, at_leaf, at_array, at_object, of_member, keys_in, keys_in_pairs}
use Rattle.json_value.specs.Faults.{is_two, faults, faults_in, faults_in_pairs, faults_of_entry, faults_of_two}
use Rattle.json_value.specs.Faults.{faults_in_members, type_named}
use Rattle.json_value.specs.Answers.{IsRead, IsCaused, IsOnlyCaused, IsOfJson, fault_at}

-- ---- the faults that there are

abbrev AllOfJson : List Found → Type 0
AllOfJson [] = Unit {0}
AllOfJson (f ∷ fs) = IsOfJson f.fault × AllOfJson fs

all-append : (fs gs : List Found) → AllOfJson fs → AllOfJson gs → AllOfJson (fs ++ gs)
all-append [] gs p q = q
all-append (f ∷ fs) gs p q = (p.0, all-append fs gs p.1 q)

all_repeats : (ks : List (ℕ × Value)) (before : List Value) → AllOfJson (repeats ks before)
all_repeats [] before = tt
all_repeats (k ∷ ks) before = by (is_key_among k.1 before) (all_repeats ks (k.1 ∷ before))
  where
    by : (b : Bool) → AllOfJson (repeats ks (k.1 ∷ before))
        → AllOfJson (if_here b k.0 node.RepeatedKey ++ repeats ks (k.1 ∷ before))
    by true h = (tt, h)
    by false h = h

all_missing : (at : ℕ) (fs : List DefField) (ms : Members) → AllOfJson (all_here at (missing fs ms))
all_missing at [] ms = tt
all_missing at (f ∷ fs) ms =
    by (is_required f.need && not (is_some (get_member f.name ms))) (all_missing at fs ms)
  where
    by : (b : Bool) → AllOfJson (all_here at (missing fs ms))
        → AllOfJson (all_here at (cond b (node.MissingRequired f.id ∷ []) (missing fs ms)))
    by true h = (tt, tt)
    by false h = h

all_leaf : (k : TypeKind) (d : Data) (at : ℕ) → AllOfJson (at_leaf k d at)
all_leaf k d at = by (is_leaf k d)
  where
    by : (b : Bool) → AllOfJson (cond b [] (wrong at))
    by true = tt
    by false = (tt, tt)

all_array : (k : TypeKind) (at : ℕ) (items keys pairs pair_keys : List Found) → AllOfJson items → AllOfJson keys
    → AllOfJson pairs → AllOfJson pair_keys → AllOfJson (at_array k at items keys pairs pair_keys)
all_array kinds.List at items keys pairs pair_keys p q r s = p
all_array kinds.Set at items keys pairs pair_keys p q r s = all-append items keys p q
all_array kinds.Map at items keys pairs pair_keys p q r s = all-append pairs pair_keys r s
all_array k at items keys pairs pair_keys p q r s = (tt, tt)

all_object : (k : TypeKind) (at : ℕ) (own below : List Found) → AllOfJson own → AllOfJson below
    → AllOfJson (at_object k at own below)
all_object kinds.Struct at own below p q = all-append own below p q
all_object k at own below p q = (tt, tt)

all_member : (o : Option TypeTree) (f : TypeTree → List Found) → ((t : TypeTree) → AllOfJson (f t))
    → AllOfJson (of_member o f)
all_member None f h = tt
all_member (Some t) f h = h t

all_entry : (b : Bool) (at : ℕ) (fs : List Found) → AllOfJson fs → AllOfJson (cond b fs (wrong at))
all_entry true at fs h = h
all_entry false at fs h = (tt, tt)

mutual
  all_faults : (d : Data) (t : TypeTree) (at : ℕ) → AllOfJson (faults d t at)
  all_faults null t at = all_leaf (kind_of t) null at
  all_faults (boolean b) t at = all_leaf (kind_of t) (boolean b) at
  all_faults (number n) t at = all_leaf (kind_of t) (number n) at
  all_faults (string s) t at = all_leaf (kind_of t) (string s) at
  all_faults (array ds) t at =
      all_array (kind_of t) at (faults_in ds (element_of t) (suc at))
      (repeats (keys_in ds (kind_of (element_of t)) (suc at)) [])
      (faults_in_pairs ds (key_of t) (value_of t) (suc at))
      (repeats (keys_in_pairs ds (kind_of (key_of t)) (suc at)) [])
      (all_in ds (element_of t) (suc at)) (all_repeats (keys_in ds (kind_of (element_of t)) (suc at)) [])
      (all_in_pairs ds (key_of t) (value_of t) (suc at))
      (all_repeats (keys_in_pairs ds (kind_of (key_of t)) (suc at)) [])
  all_faults (object ms) t at =
      all_object (kind_of t) at (all_here at (missing (fields_of t) ms)) (faults_in_members ms (fields_of t) (suc at))
      (all_missing at (fields_of t) ms) (all_in_members ms (fields_of t) (suc at))

  all_in : (ds : Items) (t : TypeTree) (at : ℕ) → AllOfJson (faults_in ds t at)
  all_in no_items t at = tt
  all_in (item d ds) t at =
      all-append (faults d t at) (faults_in ds t (at + nodes d)) (all_faults d t at) (all_in ds t (at + nodes d))

  all_in_pairs : (ds : Items) (k v : TypeTree) (at : ℕ) → AllOfJson (faults_in_pairs ds k v at)
  all_in_pairs no_items k v at = tt
  all_in_pairs (item d ds) k v at =
      all-append (faults_of_entry d k v at) (faults_in_pairs ds k v (at + nodes d)) (all_of_entry d k v at)
      (all_in_pairs ds k v (at + nodes d))

  all_of_entry : (d : Data) (k v : TypeTree) (at : ℕ) → AllOfJson (faults_of_entry d k v at)
  all_of_entry (array ds) k v at = all_entry (is_two ds) at (faults_of_two ds k v (suc at)) (all_of_two ds k v (suc at))
  all_of_entry d k v at = (tt, tt)

  all_of_two : (ds : Items) (k v : TypeTree) (at : ℕ) → AllOfJson (faults_of_two ds k v at)
  all_of_two no_items k v at = tt
  all_of_two (item d ds) k v at =
      all-append (faults d k at) (faults_in ds v (at + nodes d)) (all_faults d k at) (all_in ds v (at + nodes d))

  all_in_members : (ms : Members) (fs : List DefField) (at : ℕ) → AllOfJson (faults_in_members ms fs at)
  all_in_members no_members fs at = tt
  all_in_members (member name d ms) fs at =
      all-append (of_member (type_named fs name) (λ t. faults d t at)) (faults_in_members ms fs (at + nodes d))
      (all_member (type_named fs name) (λ t. faults d t at) (λ t. all_faults d t at))
      (all_in_members ms fs (at + nodes d))

of_lesser : (f : Found) (o : Option Found) → IsOfJson f.fault → IfSome o (λ g. IsOfJson g.fault)
    → IfSome (lesser (Some f) o) (λ g. IsOfJson g.fault)
of_lesser f None p h = p
of_lesser f (Some g) p h = by (is_less g f)
  where
    by : (b : Bool) → IfSome (cond b (Some g) (Some f)) (λ x. IsOfJson x.fault)
    by true = h
    by false = p

of_least : (fs : List Found) → AllOfJson fs → IfSome (least fs) (λ g. IsOfJson g.fault)
of_least [] p = tt
of_least (f ∷ fs) p = of_lesser f (least fs) p.0 (of_least fs p.1)

-- the least fault of a JSON value is one of three
pub least_of_json : (d : Data) (t : TypeTree) (at : ℕ) (f : Found) → least (faults d t at) ≡ Some f → IsOfJson f.fault
least_of_json d t at f e =
    subst (λ o. IfSome o (λ g. IsOfJson g.fault)) e (of_least (faults d t at) (all_faults d t at))

-- ---- the answers

module _ (t : TypeTree) (text : List ℕ) where
  -- a text has one value
  one_value : (i j : Data) → IsRead text i → IsRead text j → i ≡ j
  one_value i j p q = let e : Some i ≡ Some j = sym p.is ∙ q.is in cc

  same_least : (i j : Data) → IsRead text i → IsRead text j → least (faults i t 0) ≡ least (faults j t 0)
  same_least i j p q = ap (λ d. least (faults d t 0)) (one_value i j p q)

  pub fault_is : (j : Data) (n : ℕ) (k : NodeFault) → IsRead text j → least (faults j t 0) ≡ Some (here n k)
      → IsOfJson k → IsCaused t text (Err (fault_at n k))
  fault_is j n node.WrongType r e h = (j, r, e)
  fault_is j n (node.MissingRequired id) r e h = (j, r, e)
  fault_is j n node.RepeatedKey r e h = (j, r, e)
  fault_is j n k r e h = absurd h

  pub only_fault : (j : Data) (f : Found) → IsRead text j → least (faults j t 0) ≡ Some f
      → IsOnlyCaused t text (Err (fault_at f.node f.fault))
  only_fault j f r e = record {
    no_json = λ n. absurd (n j r);
    faulty = λ n k c.
        let d : Some f ≡ Some (here n k) = sym e ∙ same_least j c.0 r c.1 ∙ c.2 in
        let same : f ≡ here n k = cc in
        inl (ap (λ (g : Found). Err (fault_at g.node g.fault)) same);
    clean = λ c. absurd (let d : Some f ≡ None = sym e ∙ same_least j c.0 r c.1 ∙ ap least c.2 in cc);
  }

  pub clean_is : (j : Data) → IsRead text j → least (faults j t 0) ≡ None → IsCaused t text (Ok tt)
  clean_is j r e = (j, r, least_none (faults j t 0) e)

  pub only_clean : (j : Data) → IsRead text j → least (faults j t 0) ≡ None → IsOnlyCaused t text (Ok tt)
  only_clean j r e = record {
    no_json = λ n. absurd (n j r);
    faulty = λ n k c. absurd (let d : None ≡ Some (here n k) = sym e ∙ same_least j c.0 r c.1 ∙ c.2 in cc);
    clean = λ c. inl refl;
  }

  only_memory : IsOnlyCaused t text (Err fault.NoMemory)
  only_memory = record { no_json = λ n. inr refl; faulty = λ n k c. inr refl; clean = λ c. inr refl }

  only_unread : ((j : Data) → IsRead text j → ⊥) → IsOnlyCaused t text (Err fault.NotJson)
  only_unread unread = record {
    no_json = λ n. inl refl;
    faulty = λ n k c. absurd (unread c.0 c.1);
    clean = λ c. absurd (unread c.0 c.1);
  }

  pub unread_is : (e : JsonFault) → (e ≡ fault.NoMemory) ⊎ ((e ≡ fault.NotJson) × ((j : Data) → IsRead text j → ⊥))
      → IsCaused t text (Err e) × IsOnlyCaused t text (Err e)
  unread_is e (inl m) = subst (λ x. IsCaused t text (Err x) × IsOnlyCaused t text (Err x)) (sym m) (tt, only_memory)
  unread_is e (inr n) =
      subst (λ x. IsCaused t text (Err x) × IsOnlyCaused t text (Err x)) (sym n.0) (n.1, only_unread n.1)
