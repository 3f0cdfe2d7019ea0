-- The book: what each slot has issued, by the accepted calls alone and never by what the network holds.
-- A slot's issues are each accepted originate of it and, with no withdraw of it accepted since its last issue, the 900th tick accepted since that issue;
-- after 4,294,967,295 issues there are no more. The n-th has number n and the body of the slot's latest accepted originate.
use Rattle.std.specs.Prelude.{ℕ, ◌+◌, Bool, true, false, cond, ◌&&◌, List, [], ◌∷◌, ◌++◌, length, ◌==◌, nat_lt}
use Rattle.model.specs.Records.{last_number}

-- an accepted call; a tick is kept with the missed sum that it answered, at which the book does not look
pub data Call : Type 0 where
  add : ℕ → Call
  attach : ℕ → ℕ → ℕ → Call
  up : ℕ → Call
  down : ℕ → Call
  originate : ℕ → ℕ → List ℕ → Call
  withdraw : ℕ → ℕ → Call
  tick : ℕ → Call

-- accepted calls, the latest first
abbrev pub History : Type 0
History = List Call

-- what the book has of a slot: the bodies of its issues, the n-th at n - 1; the body of its latest originate;
-- whether no withdraw came since its last issue; the ticks since that issue
pub record SlotIssues : Type 0 where
  pub issues : List (List ℕ)
  pub latest : List ℕ
  pub standing : Bool
  pub ticks : ℕ

abbrev pub no_issues : SlotIssues
no_issues = record { issues = []; latest = []; standing = false; ticks = 0 }

-- one issue more with this body
abbrev pub issued_again : List ℕ → SlotIssues → SlotIssues
issued_again body g =
    cond (nat_lt (length g.issues) last_number)
    (record { issues = g.issues ++ body ∷ []; latest = body; standing = true; ticks = 0 })
    g

abbrev pub tick_later : SlotIssues → SlotIssues
tick_later g = record { issues = g.issues; latest = g.latest; standing = g.standing; ticks = g.ticks + 1 }

abbrev pub issue_withdrawn : SlotIssues → SlotIssues
issue_withdrawn g = record { issues = g.issues; latest = g.latest; standing = false; ticks = g.ticks }

-- a tick: the 900th since an issue that stands makes one issue more
abbrev pub ticked : SlotIssues → SlotIssues
ticked g = cond (g.standing && g.ticks + 1 == 900) (issued_again g.latest (tick_later g)) (tick_later g)

-- what the book has of slot k of router r after one call more
abbrev pub noted : ℕ → ℕ → Call → SlotIssues → SlotIssues
noted r k (add y) g = g
noted r k (attach q c e) g = g
noted r k (up c) g = g
noted r k (down c) g = g
noted r k (originate q j body) g = cond (q == r && j == k) (issued_again body g) g
noted r k (withdraw q j) g = cond (q == r && j == k) (issue_withdrawn g) g
noted r k (tick m) g = ticked g

abbrev pub slot_issues : History → ℕ → ℕ → SlotIssues
slot_issues [] r k = no_issues
slot_issues (c ∷ h) r k = noted r k c (slot_issues h r k)

-- the bodies of the slot's issues, the n-th at n - 1
abbrev pub issues_of : History → ℕ → ℕ → List (List ℕ)
issues_of h r k = (slot_issues h r k).issues
