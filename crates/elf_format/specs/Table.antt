-- Records that have the same form in both classes: the size of each, and the offsets of its fields (gABI: Note
-- Section; GNU symbol versioning; GNU hash table; LSB: `.eh_frame_hdr` and `.eh_frame`; program properties).
use Rattle.std.specs.Prelude.{ℕ}
use Rattle.elf_format.specs.Bytes.{Field, field_at}

-- the header of a note

abbrev pub note_header_size : ℕ
note_header_size = 12

abbrev pub n_namesz : Field
n_namesz = field_at 0 4

abbrev pub n_descsz : Field
n_descsz = field_at 4 4

abbrev pub n_type : Field
n_type = field_at 8 4

-- a version definition (Verdef)

abbrev pub verdef_size : ℕ
verdef_size = 20

abbrev pub vd_version : Field
vd_version = field_at 0 2

abbrev pub vd_flags : Field
vd_flags = field_at 2 2

abbrev pub vd_ndx : Field
vd_ndx = field_at 4 2

abbrev pub vd_cnt : Field
vd_cnt = field_at 6 2

abbrev pub vd_hash : Field
vd_hash = field_at 8 4

abbrev pub vd_aux : Field
vd_aux = field_at 12 4

abbrev pub vd_next : Field
vd_next = field_at 16 4

-- a name of a version definition (Verdaux)

abbrev pub verdaux_size : ℕ
verdaux_size = 8

abbrev pub vda_name : Field
vda_name = field_at 0 4

abbrev pub vda_next : Field
vda_next = field_at 4 4

-- the versions needed from one file (Verneed)

abbrev pub verneed_size : ℕ
verneed_size = 16

abbrev pub vn_version : Field
vn_version = field_at 0 2

abbrev pub vn_cnt : Field
vn_cnt = field_at 2 2

abbrev pub vn_file : Field
vn_file = field_at 4 4

abbrev pub vn_aux : Field
vn_aux = field_at 8 4

abbrev pub vn_next : Field
vn_next = field_at 12 4

-- a needed version (Vernaux)

abbrev pub vernaux_size : ℕ
vernaux_size = 16

abbrev pub vna_hash : Field
vna_hash = field_at 0 4

abbrev pub vna_flags : Field
vna_flags = field_at 4 2

abbrev pub vna_other : Field
vna_other = field_at 6 2

abbrev pub vna_name : Field
vna_name = field_at 8 4

abbrev pub vna_next : Field
vna_next = field_at 12 4

-- the version index of a symbol (Versym)

abbrev pub versym_size : ℕ
versym_size = 2

abbrev pub vs_value : Field
vs_value = field_at 0 2

-- the header of a GNU hash table

abbrev pub gnu_hash_header_size : ℕ
gnu_hash_header_size = 16

abbrev pub gh_bucket_count : Field
gh_bucket_count = field_at 0 4

abbrev pub gh_symbol_base : Field
gh_symbol_base = field_at 4 4

abbrev pub gh_bloom_count : Field
gh_bloom_count = field_at 8 4

abbrev pub gh_bloom_shift : Field
gh_bloom_shift = field_at 12 4

-- the header of `.eh_frame_hdr`; the frame pointer is signed

abbrev pub eh_frame_hdr_size : ℕ
eh_frame_hdr_size = 12

abbrev pub eh_version : Field
eh_version = field_at 0 1

abbrev pub eh_frame_pointer_encoding : Field
eh_frame_pointer_encoding = field_at 1 1

abbrev pub eh_count_encoding : Field
eh_count_encoding = field_at 2 1

abbrev pub eh_table_encoding : Field
eh_table_encoding = field_at 3 1

abbrev pub eh_frame_pointer : Field
eh_frame_pointer = field_at 4 4

abbrev pub eh_entry_count : Field
eh_entry_count = field_at 8 4

-- an entry of its table; both numbers are signed

abbrev pub eh_frame_hdr_entry_size : ℕ
eh_frame_hdr_entry_size = 8

abbrev pub ehe_frame_ptr : Field
ehe_frame_ptr = field_at 0 4

abbrev pub ehe_frame_info_ptr : Field
ehe_frame_info_ptr = field_at 4 4

-- the first two fields of an entry of `.eh_frame`

abbrev pub eh_frame_entry_prefix_size : ℕ
eh_frame_entry_prefix_size = 8

abbrev pub ehp_length : Field
ehp_length = field_at 0 4

abbrev pub ehp_cie_id : Field
ehp_cie_id = field_at 4 4

-- a program property of four bytes of data

abbrev pub note_property_size : ℕ
note_property_size = 12

abbrev pub pr_type : Field
pr_type = field_at 0 4

abbrev pub pr_datasz : Field
pr_datasz = field_at 4 4

abbrev pub pr_data : Field
pr_data = field_at 8 4

-- the program property of AArch64 pointer authentication

abbrev pub pauth_property_size : ℕ
pauth_property_size = 24

abbrev pub pauth_platform : Field
pauth_platform = field_at 8 8

abbrev pub pauth_version : Field
pauth_version = field_at 16 8
