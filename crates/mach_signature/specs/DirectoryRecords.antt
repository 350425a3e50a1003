-- The fields that every code directory has (`cs_blobs.h`, struct __CodeDirectory).
use Rattle.std.specs.Prelude.{List, [], ◌∷◌}
use Rattle.mach_base.specs.Record.{Field, num, Value, number_is, number_among}
use Rattle.mach_signature.specs.declared.records.DirectoryHead.{DirectoryHead}

abbrev pub directory_head_fields : List Field
directory_head_fields =
    num 4 ∷ num 4 ∷ num 4 ∷ num 4 ∷ num 4 ∷ num 4 ∷ num 4 ∷ num 4 ∷ num 4 ∷ num 1 ∷ num 1 ∷ num 1 ∷ num 1 ∷ num 4 ∷ []

abbrev pub directory_head_values : DirectoryHead → List Value
directory_head_values d =
    number_is d.magic ∷ number_is d.length ∷ number_is d.version ∷ number_is d.flags ∷ number_is d.hash_offset
    ∷ number_is d.ident_offset ∷ number_is d.n_special_slots ∷ number_is d.n_code_slots ∷ number_is d.code_limit ∷ number_is d.hash_size
    ∷ number_is d.hash_type ∷ number_is d.platform ∷ number_is d.page_size ∷ number_is d.spare2 ∷ []

abbrev pub directory_head_of_values : List Value → DirectoryHead
directory_head_of_values vs = record {
  magic = number_among vs 0;
  length = number_among vs 1;
  version = number_among vs 2;
  flags = number_among vs 3;
  hash_offset = number_among vs 4;
  ident_offset = number_among vs 5;
  n_special_slots = number_among vs 6;
  n_code_slots = number_among vs 7;
  code_limit = number_among vs 8;
  hash_size = number_among vs 9;
  hash_type = number_among vs 10;
  platform = number_among vs 11;
  page_size = number_among vs 12;
  spare2 = number_among vs 13;
}
