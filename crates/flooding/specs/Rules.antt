-- The rules of flooding for one identifier: what a router that hears of it then holds, what a router says of it in each kind of frame,
-- and one put with all its deliveries.
use Rattle.std.specs.Prelude.{◌≡◌, ◌≢◌, ◌⊎◌, Bool, true, false, ℕ, suc, ◌+◌, ◌≤◌, ◌<◌}
use Rattle.flooding.specs.Copies.{Content, Topology, Copy, Held, none, held, Holdings, Mention, copy, entry, unlisted, Newer}

-- from k to k' only the wait and the flags on circuit c may have changed
pub record Reflagged (c : ℕ) (k k' : Copy) : Type 0 where
  pub rank : k'.rank ≡ k.rank
  pub lifetime : k'.lifetime ≡ k.lifetime
  pub content : k'.content ≡ k.content
  pub srm : (e : ℕ) → e ≢ c → k'.srm e ≡ k.srm e
  pub ssn : (e : ℕ) → e ≢ c → k'.ssn e ≡ k.ssn e

-- router x, which is not the owner, stored a copy heard on circuit c: to be sent on all other circuits, and acknowledged on c if that is
-- point-to-point
pub record Stored (P : Topology) (x c R L : ℕ) (C : Content) (k' : Copy) : Type 0 where
  pub foreign : x ≢ P.owner
  pub rank : k'.rank ≡ R
  pub lifetime : k'.lifetime ≡ L
  pub content : 1 ≤ L → k'.content ≡ C
  pub wait : (k'.wait ≡ 0) ⊎ (k'.wait ≡ 60)
  pub srm_here : k'.srm c ≡ false
  pub ssn_here : P.point_to_point c ≡ true → k'.ssn c ≡ true
  pub elsewhere : (e : ℕ) → e ≢ c → P.attached x e ≡ true → (k'.srm e ≡ true) × (k'.ssn e ≡ false)

-- router x stored a purge of the number that rank R has, to be sent on all circuits
pub record Purged (P : Topology) (x R : ℕ) (k' : Copy) : Type 0 where
  pub rank : (k'.rank ≡ R) ⊎ (k'.rank ≡ suc R)
  pub purge : (m : ℕ) × (k'.rank ≡ suc (m + m))
  pub lifetime : k'.lifetime ≡ 0
  pub wait : k'.wait ≡ 60
  pub everywhere : (e : ℕ) → P.attached x e ≡ true → k'.srm e ≡ true

-- What the owner makes of an LSP newer than what it holds: with an inactive slot a purge. With an active one it would issue again, of
-- which nothing need be said: it is proved that no run comes there.
abbrev pub OwnerAnswers : Topology → ℕ → ℕ → Held → Type 0
OwnerAnswers P x R none = P.active ≡ true
OwnerAnswers P x R (held k') = (P.active ≡ true) ⊎ Purged P x R k'

-- router x hears a mention on circuit c
pub data Hears (P : Topology) (x c : ℕ) : Mention → Held → Held → Type 0 where
  -- an LSP: newer and the router's own; newer; a purge of what is not held; the same; older
  own_newer : {R L : ℕ} {C : Content} {h h' : Held} → x ≡ P.owner → Newer R h → OwnerAnswers P x R h' → Hears P x c (copy R L C) h h'
  newer_lsp : {R L : ℕ} {C : Content} {h : Held} {k' : Copy} → Newer R h → Stored P x c R L C k' → Hears P x c (copy R L C) h (held k')
  unknown_purge : {R L : ℕ} {C : Content} → (Newer R none → ⊥) → Hears P x c (copy R L C) none none
  same_lsp : {R L : ℕ} {C : Content} {k k' : Copy} → R ≡ k.rank → Reflagged c k k' → k'.wait ≡ k.wait → k'.srm c ≡ false →
      Hears P x c (copy R L C) (held k) (held k')
  older_lsp : {R L : ℕ} {C : Content} {k k' : Copy} → R < k.rank → Reflagged c k k' → k'.wait ≡ k.wait → k'.srm c ≡ true →
      Hears P x c (copy R L C) (held k) (held k')
  -- an entry: of what is not held, live (a placeholder is stored, with SSN) or not; the same; older; newer (a wait above 0 begins again)
  unknown_entry : {R : ℕ} {k' : Copy} → Newer R none → k'.rank ≡ 0 → k'.lifetime ≡ 0 → k'.wait ≡ 60 → k'.ssn c ≡ true →
      Hears P x c (entry R) none (held k')
  unknown_not_live : {R : ℕ} → (Newer R none → ⊥) → Hears P x c (entry R) none none
  same_entry : {R : ℕ} {k k' : Copy} → R ≡ k.rank → Reflagged c k k' → k'.wait ≡ k.wait → k'.ssn c ≡ k.ssn c →
      (P.point_to_point c ≡ false → k'.srm c ≡ k.srm c) → Hears P x c (entry R) (held k) (held k')
  older_entry : {R : ℕ} {k k' : Copy} → R < k.rank → Reflagged c k k' → k'.wait ≡ k.wait → k'.srm c ≡ true →
      Hears P x c (entry R) (held k) (held k')
  newer_entry : {R : ℕ} {k k' : Copy} → k.rank < R → Reflagged c k k' → (k'.wait ≡ 0) ⊎ (k'.wait ≡ 60) → k'.ssn c ≡ true →
      (P.point_to_point c ≡ false → k'.srm c ≡ k.srm c) → Hears P x c (entry R) (held k) (held k')
  -- not listed by a CSNP in whose range it is: what is held live gets SRM
  unlisted_none : Hears P x c unlisted none none
  unlisted_live : {k k' : Copy} → 1 ≤ k.lifetime → Reflagged c k k' → k'.wait ≡ k.wait → k'.ssn c ≡ k.ssn c → k'.srm c ≡ true →
      Hears P x c unlisted (held k) (held k')
  unlisted_purge : {k : Copy} → k.lifetime ≡ 0 → Hears P x c unlisted (held k) (held k)

pub data Kind : Type 0 where
  lsp psnp csnp : Kind

-- router r says this in a frame of a kind on circuit c, and what it then holds. An LSP is sent for SRM, which stays set on a point-to-point
-- circuit; a PSNP's entry for SSN, on broadcast not by the designated router; a CSNP, on broadcast by the designated router, lists what is
-- held but for placeholders.
pub data Sends (P : Topology) (r c : ℕ) : Kind → Mention → Held → Held → Type 0 where
  as_lsp : {k k' : Copy} → k.srm c ≡ true → Reflagged c k k' → k'.wait ≡ k.wait → k'.ssn c ≡ k.ssn c →
      (P.point_to_point c ≡ true → k'.srm c ≡ true) → Sends P r c lsp (copy k.rank k.lifetime k.content) (held k) (held k')
  in_psnp : {k k' : Copy} → k.ssn c ≡ true → (P.point_to_point c ≡ false → r ≢ P.designated c) → Reflagged c k k' →
      k'.wait ≡ k.wait → k'.srm c ≡ k.srm c → Sends P r c psnp (entry k.rank) (held k) (held k')
  in_csnp : {k : Copy} → 1 ≤ k.rank → (P.point_to_point c ≡ false → r ≡ P.designated c) →
      Sends P r c csnp (entry k.rank) (held k) (held k)
  omits_placeholder : {k : Copy} → k.rank ≡ 0 → (P.point_to_point c ≡ false → r ≡ P.designated c) →
      Sends P r c csnp unlisted (held k) (held k)
  holds_none : (P.point_to_point c ≡ false → r ≡ P.designated c) → Sends P r c csnp unlisted none none

-- on broadcast only the designated router heeds a PSNP
abbrev pub Heeds : Topology → ℕ → ℕ → Kind → Type 0
Heeds P x c lsp = Unit {0}
Heeds P x c psnp = P.point_to_point c ≡ false → x ≡ P.designated c
Heeds P x c csnp = Unit {0}

-- what becomes of router x's copy as router r puts a frame with this mention on circuit c; `missed` says whether some end missed a frame
pub data Delivery (P : Topology) (missed : Bool) (r c : ℕ) (g : Kind) (w : Mention) (x : ℕ) : Held → Held → Type 0 where
  sender : {h h' : Held} → x ≡ r → Sends P r c g w h h' → Delivery P missed r c g w x h h'
  hears : {h h' : Held} → x ≢ r → P.attached x c ≡ true → Heeds P x c g → Hears P x c w h h' → Delivery P missed r c g w x h h'
  ignores : {h : Held} → x ≢ r → (Heeds P x c g → ⊥) → Delivery P missed r c g w x h h
  misses : {h : Held} → x ≢ r → missed ≡ true → Delivery P missed r c g w x h h
  detached : {h : Held} → x ≢ r → P.attached x c ≡ false → Delivery P missed r c g w x h h

-- router r puts a frame of a kind on circuit c, and every other end hears or misses it
pub record Put (P : Topology) (missed : Bool) (r c : ℕ) (g : Kind) (s s' : Holdings) : Type 0 where
  pub mention : Mention
  pub sender_attached : P.attached r c ≡ true
  pub delivery : (x : ℕ) → Delivery P missed r c g mention x (s x) (s' x)
