pub mod CreateCall
