-- What placing, deleting and changing a record do to a database, said of what is found in it, and that its identifiers stay rising.
use Rattle.std.specs.Prelude.{◌≡◌, ℕ, ◌+◌, ◌≤◌, ◌≢◌, [], ◌∷◌, Some, None, Option}
use Rattle.model.specs.Records.{HeldRecord}
use Rattle.model.specs.Databases.{Database, find, placed, without, amended}

-- identifiers rise strictly, from `low` on
abbrev pub RisingFrom : ℕ → Database → Type 0
RisingFrom low [] = Unit {0}
RisingFrom low (x ∷ xs) = (low ≤ x.id) × RisingFrom (x.id + 1) xs

abbrev pub Rising : Database → Type 0
Rising d = RisingFrom 0 d

abbrev pub changed : (HeldRecord → HeldRecord) → Option HeldRecord → Option HeldRecord
changed f None = None
changed f (Some x) = Some (f x)

abbrev pub KeepsId : (HeldRecord → HeldRecord) → Type 0
KeepsId f = (x : HeldRecord) → (f x).id ≡ x.id

pub record DatabaseLaws : Type 0 where
  -- what is found has the identifier
  pub found : (i : ℕ) (d : Database) (x : HeldRecord) → find i d ≡ Some x → x.id ≡ i
  -- a record that is placed is found, and all else is as it was
  pub placed_here : (x : HeldRecord) (d : Database) → find x.id (placed x d) ≡ Some x
  pub placed_else : (x : HeldRecord) (i : ℕ) (d : Database) → i ≢ x.id → find i (placed x d) ≡ find i d
  pub placed_rises : (x : HeldRecord) (d : Database) → Rising d → Rising (placed x d)
  -- a record that is deleted is not found, and all else is as it was
  pub deleted_here : (i : ℕ) (d : Database) → Rising d → find i (without i d) ≡ None
  pub deleted_else : (i j : ℕ) (d : Database) → i ≢ j → find i (without j d) ≡ find i d
  pub deleted_rises : (i : ℕ) (d : Database) → Rising d → Rising (without i d)
  -- a record that is changed is found changed, and all else is as it was
  pub changed_here : (f : HeldRecord → HeldRecord) (i : ℕ) (d : Database) → KeepsId f → find i (amended f i d) ≡ changed f (find i d)
  pub changed_else : (f : HeldRecord → HeldRecord) (i j : ℕ) (d : Database) → KeepsId f → i ≢ j → find i (amended f j d) ≡ find i d
  pub changed_rises : (f : HeldRecord → HeldRecord) (i : ℕ) (d : Database) → KeepsId f → Rising d → Rising (amended f i d)
