-- Bench cases of the definitions: check octets of issues, which of two records is newer, and the lengths of summaries.
use Rattle.std.specs.Prelude.{◌≡◌, [], ◌∷◌, map, length}
use Rattle.record.specs.declared.form.Recency.TheVariants.{Newer}
use Rattle.frame.specs.Reading.{last_id}
use Rattle.model.specs.Flags.{only}
use Rattle.model.specs.Records.{order, purge, with_ssn, slot_id}
use Rattle.model.specs.Databases.{Database}
use Rattle.model.specs.Sending.{issue, issue_check, psnp_frame, csnp_frame, source_of}
use Rattle.model.specs.Sharing.{psnp_parts}

-- 16 records with SSN at port 0
abbrev pub sixteen : Database
sixteen =
    map (λ k. with_ssn (only 0) (issue 1 k 1 []))
    (0 ∷ 1 ∷ 2 ∷ 3 ∷ 4 ∷ 5 ∷ 6 ∷ 7 ∷ 8 ∷ 9 ∷ 10 ∷ 11 ∷ 12 ∷ 13 ∷ 14 ∷ 15 ∷ [])

pub record Benched : Type 0 where
  -- 0000.0000.0001.00-00 with flag octet 01
  pub number_1 : issue_check (slot_id 1 0) 1 [] ≡ record { x = 0xF6; y = 0x06 }
  pub number_2 : issue_check (slot_id 1 0) 2 [] ≡ record { x = 0xF4; y = 0x07 }
  pub with_body : issue_check (slot_id 1 0) 1 (0x81 ∷ 0x01 ∷ 0xCC ∷ []) ≡ record { x = 0x30; y = 0x7D }
  pub number_124 : issue_check (slot_id 1 0) 124 [] ≡ record { x = 0xFF; y = 0x81 }
  -- the larger number is newer, then the purge
  pub live_5_over_purge_4 : order 5 1200 (purge (slot_id 1 0) 4 1) ≡ Newer
  pub purge_5_over_live_5 : order 5 0 (issue 1 0 5 []) ≡ Newer
  -- an empty database's CSNP
  pub empty_csnp : length (csnp_frame (record { source = source_of 1; start = 0; end = last_id; entries = [] })) ≡ 33
  -- the PSNPs of 16 records with SSN
  pub sixteen_psnps : map (λ xs. length (psnp_frame 1 xs)) (psnp_parts 0 sixteen) ≡ 259 ∷ 35 ∷ []
