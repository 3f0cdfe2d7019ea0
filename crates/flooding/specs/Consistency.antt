-- What holds of the identifier in every view that a run comes to: every live copy is an issue of the owner's slot, and ends with it.
use Rattle.std.specs.Prelude.{◌≡◌, ◌⊎◌, true, false, ℕ, suc, ◌+◌, ◌≤◌}
use Rattle.flooding.specs.Copies.{Content, Topology, Copy, Held, none, held, Holdings, Mention, copy, entry, unlisted, Newer, Live, NotLive}
use Rattle.flooding.specs.Rules.{Kind, Sends}
use Rattle.flooding.specs.CopyRuns.{Slot, View, Run}

-- rank, lifetime and content are those of an issue at this clock
abbrev pub LiveIssue : Slot → ℕ → ℕ → ℕ → Content → Type 0
LiveIssue S clock rank lifetime content =
    (m : ℕ) × (rank ≡ m + m) × (1 ≤ m) × (m ≤ S.last) × (1 ≤ lifetime) × (lifetime + clock ≡ S.ends m) × (content ≡ S.content m)

-- or they are those of a placeholder, or of a purge of an issue
abbrev pub PurgeOrPlaceholder : Slot → ℕ → ℕ → Type 0
PurgeOrPlaceholder S rank lifetime = (lifetime ≡ 0) × ((rank ≡ 0) ⊎ ((m : ℕ) × (rank ≡ suc (m + m)) × (1 ≤ m) × (m ≤ S.last)))

abbrev pub AllowedCopy : Slot → ℕ → ℕ → ℕ → Content → Type 0
AllowedCopy S clock rank lifetime content = LiveIssue S clock rank lifetime content ⊎ PurgeOrPlaceholder S rank lifetime

abbrev pub Allowed : Slot → ℕ → Held → Type 0
Allowed S clock none = Unit {0}
Allowed S clock (held k) = AllowedCopy S clock k.rank k.lifetime k.content

-- not newer than live n
abbrev pub NotNewer : ℕ → Held → Type 0
NotNewer n none = Unit {0}
NotNewer n (held k) = k.rank ≤ n + n

-- the invariant: all copies are allowed; an active slot's owner holds its last number live, and nothing newer stands anywhere (so no purge of
-- it); an inactive slot's owner holds nothing live
pub record Consistent (P : Topology) (clock : ℕ) (S : Slot) (s : Holdings) : Type 0 where
  pub allowed : (x : ℕ) → Allowed S clock (s x)
  pub owner_holds : P.active ≡ true → Live S.last (s P.owner)
  pub not_newer : P.active ≡ true → (x : ℕ) → NotNewer S.last (s x)
  pub numbered : P.active ≡ true → 1 ≤ S.last
  pub not_live : P.active ≡ false → NotLive (s P.owner)

abbrev pub ConsistentView : View → Type 0
ConsistentView v = Consistent v.topology v.clock v.slot v.holdings

abbrev pub RunsAreConsistent : Type 0
RunsAreConsistent = (v : View) → Run v → ConsistentView v

-- every live copy has a number that was issued and the content of that issue, and ends with it
abbrev pub Issued : Type 0
Issued =
    (v : View) → Run v → (x : ℕ) (k : Copy) → v.holdings x ≡ held k → 1 ≤ k.lifetime → LiveIssue v.slot v.clock k.rank k.lifetime k.content

-- copies of one issue age in step: two live copies of one number have the same lifetime and content
abbrev pub CopiesInStep : Type 0
CopiesInStep =
    (v : View) → Run v → (x y : ℕ) (k j : Copy) → v.holdings x ≡ held k → v.holdings y ≡ held j → 1 ≤ k.lifetime → k.rank ≡ j.rank →
    (j.lifetime ≡ k.lifetime) × (j.content ≡ k.content)

-- no copy has a number beyond the slot's last
abbrev pub NoNumberBeyond : Type 0
NoNumberBeyond = (v : View) → Run v → (x : ℕ) (k : Copy) → v.holdings x ≡ held k → k.rank ≤ suc (v.slot.last + v.slot.last)

-- and while the slot is active there is no purge of its last number
abbrev pub NoPurgeOfLast : Type 0
NoPurgeOfLast =
    (v : View) → Run v → v.topology.active ≡ true → (x : ℕ) (k : Copy) → v.holdings x ≡ held k → k.rank ≤ v.slot.last + v.slot.last

-- the owner of an active slot holds its last number live, with the content and the end of that issue
abbrev pub ActiveOwnerHolds : Type 0
ActiveOwnerHolds =
    (v : View) → Run v → v.topology.active ≡ true →
    (k : Copy) × (v.holdings v.topology.owner ≡ held k) × (k.rank ≡ v.slot.last + v.slot.last) × (1 ≤ k.lifetime) ×
    (k.lifetime + v.clock ≡ v.slot.ends v.slot.last) × (k.content ≡ v.slot.content v.slot.last)

-- An LSP that is sent carries an issue or a purge of one.
abbrev pub AllowedMention : Slot → ℕ → Mention → Type 0
AllowedMention S clock (copy R L C) = AllowedCopy S clock R L C
AllowedMention S clock (entry R) = Unit {0}
AllowedMention S clock unlisted = Unit {0}

-- the mention is an LSP of something newer than what is held
abbrev pub NewerLsp : Mention → Held → Type 0
NewerLsp (copy R L C) h = Newer R h
NewerLsp (entry R) h = ⊥
NewerLsp unlisted h = ⊥

-- whatever is sent is allowed, and while the slot is active it is not newer than what the owner holds: no slot issues again because of what it hears
abbrev pub SentIsAllowed : Type 0
SentIsAllowed =
    (P : Topology) (clock : ℕ) (S : Slot) (s : Holdings) → Consistent P clock S s →
    (r c : ℕ) (g : Kind) (w : Mention) (h : Held) → Sends P r c g w (s r) h →
    AllowedMention S clock w × (P.active ≡ true → NewerLsp w (s P.owner) → ⊥)

-- before its first issue no router holds anything of an identifier, not even a placeholder: so what is held was issued by some slot
abbrev pub UnissuedUnheld : Type 0
UnissuedUnheld = (v : View) → Run v → v.slot.last ≡ 0 → (x : ℕ) → v.holdings x ≡ none
