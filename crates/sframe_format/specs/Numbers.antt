-- The numbers of the format (SFrame 2, SFrame Section, SFrame Flags, SFrame FDE). The meaning of flag 8 is
-- this project's own.
use Rattle.std.specs.Prelude.{ℕ}

-- the first two bytes of a header
abbrev pub sframe_magic : ℕ
sframe_magic = 0xdee2

abbrev pub sframe_version : ℕ
sframe_version = 2

-- the size of a header without its auxiliary bytes
abbrev pub sframe_header_size : ℕ
sframe_header_size = 28

-- the size of an FDE
abbrev pub fde_size : ℕ
fde_size = 20

-- the FDEs ascend by address
abbrev pub sframe_f_fde_sorted : ℕ
sframe_f_fde_sorted = 1

-- all functions keep a frame pointer
abbrev pub sframe_f_frame_pointer : ℕ
sframe_f_frame_pointer = 2

-- a start value counts from its own field
abbrev pub sframe_f_fde_func_start_pcrel : ℕ
sframe_f_fde_func_start_pcrel = 4

-- return addresses are signed
abbrev pub sframe_f_signed_return_addresses : ℕ
sframe_f_signed_return_addresses = 8

-- the flags that a merged header has from its first contribution: all but 1, 2 and 8
abbrev pub flags_of_first : ℕ
flags_of_first = 0xf4
